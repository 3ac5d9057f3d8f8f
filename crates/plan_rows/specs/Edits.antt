-- Ranges of an object's bytes over its pages, and the edits of them that operations are.
use Rattle.std.specs.Prelude.{ℕ, ◌+◌, ◌-◌, ◌*◌, ◌/◌, ◌≤◌, ◌==◌, ◌&&◌, nat_le, nat_lt, max, Bool, true, false, List, [], ◌∷◌, length, take, drop, Option, Some, None, slice_get, if◌then◌else◌}
use Rattle.std.specs.Int.{w32, from_le_bytes}
use Rattle.std.specs.List.{range_with_len}
use Rattle.std.specs.Option.{option_map_or}
use Rattle.std.specs.FinMap as finite
use Rattle.byte_maps.specs.Units.{zeros}
use Rattle.object_model.specs.declared.op.Op.{Op}
use Rattle.object_model.specs.declared.op.Op.TheVariants.{Write, Zero, Truncate}
use Rattle.object_model.specs.Prelude.{object_limit, overwritten, resized}
use Rattle.unit_fields.specs.declared.width.Width.{Width}
use Rattle.meta_rows.specs.Prelude.{Rows}
use Rattle.row_format.specs.Prelude.{Place, own, slot, Slot, slots_read, shared_key}
use Rattle.store_image.specs.Prelude.{PageUnit}
use Rattle.plan_rows.specs.declared.plan.ReadUnit.{ReadUnit}

-- ---- ranges of bytes over pages

-- all bytes of the page are in the range from `off` to `end`
abbrev pub covers_whole : ℕ → ℕ → ℕ → Bool
covers_whole off end page = nat_le off (4096 * page) && nat_le (4096 * page + 4096) end

-- the pages that have bytes of the range, in order: none where it is empty
abbrev pub pages_touched : ℕ → ℕ → List ℕ
pages_touched off end = if nat_lt off end then range_with_len (off / 4096) ((end + 4095) / 4096 - off / 4096) else []

-- A page's bytes with a piece laid over the object from `off` on: they are overwritten from where the piece reaches the page, up to the page's end.
abbrev pub page_after : ℕ → List ℕ → ℕ → List ℕ → List ℕ
page_after off piece page old = take 4096 (overwritten old (off - 4096 * page) (drop (4096 * page - off) piece))

-- ---- edits

-- An edit: how long the object is after it, the piece that is laid over its bytes from `off` on, and whether it is of zeros that clear
-- pages. Where it is, a page that it covers wholly becomes a hole, and a hole stays one.
pub record Edit : Type 0 where
  pub size : ℕ
  pub off : ℕ
  pub piece : List ℕ
  pub clears : Bool

abbrev pub end_of : Edit → ℕ
end_of e = e.off + length e.piece

-- how long an object is with so many bytes laid over it from there on: none leave it as it is
abbrev pub grown : ℕ → ℕ → ℕ → ℕ
grown size off len = if len == 0 then size else max size (off + len)

-- Of an object of so many bytes. A truncate that lowers the size clears all from the new size on, another one nothing. What isn't about bytes
-- leaves them.
abbrev pub edit_of : Op → ℕ → Edit
edit_of (Write o off bytes) size = record { size = grown size off (length bytes); off = off; piece = bytes; clears = false }
edit_of (Zero o off len) size = record { size = grown size off len; off = off; piece = zeros len; clears = true }
edit_of (Truncate o to) size = record {
  size = to;
  off = to;
  piece = if nat_lt to size then zeros (object_limit - to) else [];
  clears = true;
}
edit_of op size = record { size = size; off = 0; piece = []; clears = false }

-- the page becomes a hole, if it isn't one
abbrev pub is_cleared : Edit → ℕ → Bool
is_cleared e page = e.clears && covers_whole e.off (end_of e) page

-- ---- units

-- where a slot of a blob is, by the value of the blob's row: its unit, and the checksum that is kept for it (nothing of a blob without a row)
abbrev pub slot_unit : Width → Option (List ℕ) → ℕ → PageUnit
slot_unit w None index = record { unit = 0; csum = 0 }
slot_unit w (Some value) index = record {
  unit = from_le_bytes w32 value + index;
  csum = option_map_or (λ (x : Slot). x.csum) (slice_get (slots_read w value) index) 0;
}

-- the unit on which a page at this place stands, and the checksum that is kept for it
abbrev pub page_unit : Width → Rows → Place → PageUnit
page_unit w rows (own unit csum) = record { unit = unit; csum = csum }
page_unit w rows (slot sbid index) = slot_unit w (finite.get rows (shared_key sbid)) index

-- the old bytes that were read of a unit, or zeros where it wasn't
abbrev pub bytes_read : List ReadUnit → ℕ → List ℕ
bytes_read [] unit = zeros 4096
bytes_read (r ∷ rs) unit = if r.unit == unit then r.bytes else bytes_read rs unit

-- the old bytes of a place, where places stand on units so
abbrev pub old_bytes_in : (Place → PageUnit) → List ReadUnit → Place → List ℕ
old_bytes_in on read place = bytes_read read (on place).unit

-- ---- bytes

-- an object's bytes after an operation on them
abbrev pub bytes_after : Op → List ℕ → List ℕ
bytes_after (Write o off bytes) old = overwritten old off bytes
bytes_after (Zero o off len) old = overwritten old off (zeros len)
bytes_after (Truncate o to) old = resized old to
bytes_after op old = old

-- what an operation on bytes asks of its numbers
abbrev pub IsInLimits : Op → Type 0
IsInLimits (Write o off bytes) = off + length bytes ≤ object_limit
IsInLimits (Zero o off len) = off + len ≤ object_limit
IsInLimits (Truncate o to) = to ≤ object_limit
IsInLimits op = Unit {0}
