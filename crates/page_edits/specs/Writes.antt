-- Writes of pages as they are planned before old bytes are there, and what the units that are taken are to hold after them.
use Rattle.std.specs.Prelude.{◌≡◌, ℕ, ◌+◌, ◌*◌, ◌<◌, ◌==◌, List, [], ◌∷◌, length, Option, slice_index_or, if◌then◌else◌}
use Rattle.std.specs.Option.{option_map_or}
use Rattle.std.specs.FinMap as finite
use Rattle.byte_maps.specs.Units.{zeros}
use Rattle.number_map.specs.NumberMap.{NumberMap}
use Rattle.object_model.specs.declared.op.Op.{Op}
use Rattle.object_model.specs.declared.op.Op.TheVariants.{MkColl}
use Rattle.object_model.specs.Prelude.{object_limit}
use Rattle.row_format.specs.Prelude.{Place}
use Rattle.store_image.specs.Prelude.{PageUnit}
use Rattle.plan_drafts.specs.declared.draft.Draft.{Draft}
use Rattle.plan_rows.specs.declared.plan.ReadUnit.{ReadUnit}
use Rattle.plan_drafts.specs.declared.fate.Fate.{Fate}
use Rattle.plan_drafts.specs.declared.fate.Fate.TheVariants.{Changed}
use Rattle.plan_drafts.specs.Edits.{Edit, end_of, edit_of, takes_unit, place_read, Held, bytes_read, page_after, IsInLimits}
use Rattle.page_edits.specs.declared.spans.Span.{Span}
use Rattle.page_edits.specs.declared.writes.OldBytes.{OldBytes}
use Rattle.page_edits.specs.declared.writes.OldBytes.TheVariants.{Zeros, Put, Read}
use Rattle.page_edits.specs.declared.writes.PageWrite.{PageWrite}
use Rattle.page_edits.specs.Ranges.{fate_on}

-- ---- which writes are planned

-- Where the old bytes of a page are, by what becomes of it and by the place where they are read: nowhere, where none of them stay.
abbrev pub old_where : Fate → Option PageUnit → OldBytes
old_where (Changed taking old) place = if old then Put taking else Zeros
old_where fate place = option_map_or (λ on. Read on.unit) place Zeros

-- the taking of its unit, where this is the next one
abbrev pub taking_by : Fate → ℕ → ℕ
taking_by (Changed taking old) next = taking
taking_by fate next = next

-- Writes of these pages by the operation of this place, where so many units had been taken before: a page that wasn't put takes the next one.
abbrev pub planned : (Place → PageUnit) → ℕ → Span → Draft → ℕ → List ℕ → List PageWrite
planned on at s d n [] = []
planned on at s d n (page ∷ pages) = record {
  op = at;
  page = page;
  taking = taking_by (fate_on s d page) n;
  old = old_where (fate_on s d page) (place_read on (fate_on s d page) (finite.get d.kept page));
} ∷ planned on at s d (if takes_unit (fate_on s d page) then n + 1 else n) pages

-- pages that were put, after writes
abbrev pub with_puts : NumberMap ℕ → List PageWrite → NumberMap ℕ
with_puts puts [] = puts
with_puts puts (w ∷ ws) = with_puts (finite.insert puts w.page w.taking) ws

-- ---- what they come to

-- the operation of this place in a transaction
abbrev pub op_at : List Op → ℕ → Op
op_at ops at = slice_index_or ops at MkColl

-- the edit that an operation is of an object as long as one can be: what it lays over any
abbrev pub widest : Op → Edit
widest op = edit_of op object_limit

-- a whole page as it is, and zeros for what isn't one
abbrev pub whole_or_zeros : List ℕ → List ℕ
whole_or_zeros bytes = if length bytes == 4096 then bytes else zeros 4096

-- what the unit is to hold so far that has the old bytes of a page, if the transaction put them
abbrev pub held_old : Held → OldBytes → List ℕ
held_old held (Put taking) = held taking
held_old held old = []

-- the old bytes of a page, by what its unit is to hold so far that has them
abbrev pub old_bytes : List ReadUnit → List ℕ → OldBytes → List ℕ
old_bytes read present Zeros = zeros 4096
old_bytes read present (Put taking) = whole_or_zeros present
old_bytes read present (Read unit) = bytes_read read unit

-- what a write by the operation makes of its page
abbrev pub bytes_made : Op → List ReadUnit → List ℕ → PageWrite → List ℕ
bytes_made op read present w = page_after (widest op).off (widest op).piece w.page (old_bytes read present w.old)

-- the same, by the taking of the page's unit
abbrev pub made_by : Op → List ReadUnit → Held → PageWrite → ℕ × List ℕ
made_by op read held w = (w.taking, bytes_made op read (held_old held w.old) w)

-- what the units are to hold after a write, and after writes one after the other
abbrev pub held_after_write : List Op → List ReadUnit → PageWrite → Held → Held
held_after_write ops read w held = λ taking. if taking == w.taking then bytes_made (op_at ops w.op) read (held_old held w.old) w else held taking

abbrev pub after_writes : List Op → List ReadUnit → List PageWrite → Held → Held
after_writes ops read [] held = held
after_writes ops read (w ∷ ws) held = after_writes ops read ws (held_after_write ops read w held)

-- these, by the numbers of their takings
abbrev pub held_in : List (List ℕ) → Held
held_in contents taking = slice_index_or contents taking []

-- ---- which writes can be made

-- a write by the operation of this place: it changes what its own unit is to hold so far, if old bytes were put
pub record IsWriteBy (at : ℕ) (w : PageWrite) : Type 0 where
  pub of : w.op ≡ at
  pub own : (taking : ℕ) → w.old ≡ Put taking → taking ≡ w.taking

-- The write's operation is one of these, within the limit of an object, and has bytes for the page; and its taking is one of so many, and that of
-- its old bytes too.
pub record CanBeMade (ops : List Op) (takings : ℕ) (w : PageWrite) : Type 0 where
  pub there : w.op < length ops
  pub within : IsInLimits (op_at ops w.op)
  pub from : (widest (op_at ops w.op)).off < 4096 * w.page + 4096
  pub to : 4096 * w.page < end_of (widest (op_at ops w.op))
  pub taken : w.taking < takings
  pub old : (taking : ℕ) → w.old ≡ Put taking → taking < takings
