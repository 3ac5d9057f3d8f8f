-- The fields of an extent in front of its checksums, as they are read.
use Rattle.std.specs.Prelude.{◌≡◌, ℕ, ◌+◌, ◌<◌, ◌≤◌, ◌^◌, List, length, drop, if◌then◌else◌}
use Rattle.std.specs.Int.{w16, w32, w64, from_le_bytes}
use Rattle.unit_fields.specs.declared.width.Width.{Width}
use Rattle.unit_fields.specs.Prelude.{bytes_of}
use Rattle.onode_codec.specs.declared.extent.Start.{Start}
use Rattle.onode_codec.specs.declared.extent.Start.TheVariants.{Unit as OnUnit, Slot as OnSlot}
use Rattle.row_format.specs.Prelude.{Place, own, slot}
use Rattle.page_lookup.specs.Bytes.{csum_in, first_in, count_in, is_shared_in, unit_in, sbid_in, slot_number_in, size_in}
use Rattle.page_lookup.specs.declared.shard.Head.{Head}

-- where the first page stands of the extent at the front of the bytes
abbrev pub start_in : List ℕ → Start
start_in bytes = if is_shared_in bytes then OnSlot (sbid_in bytes) (slot_number_in bytes) else OnUnit (unit_in bytes)

-- an extent stands whole at the front of the bytes, and these are its fields
pub record IsHeadOf (w : Width) (bytes : List ℕ) (h : Head) : Type 0 where
  pub whole : size_in w bytes ≤ length bytes
  pub first : h.first ≡ first_in bytes
  pub count : h.count ≡ count_in bytes
  pub start : h.start ≡ start_in bytes

-- how many bytes an extent has that begins there, of so many pages
abbrev pub size_from : Width → Start → ℕ → ℕ
size_from w (OnUnit unit) count = 11 + bytes_of w count
size_from w (OnSlot sbid index) count = 17

abbrev pub head_size : Width → Head → ℕ
head_size w h = size_from w h.start h.count

-- the place of the page with this number in an extent that begins there, where these are the extent's bytes
abbrev pub place_from : Width → List ℕ → Start → ℕ → Place
place_from w bytes (OnUnit unit) i = own (unit + i) (csum_in w (drop (11 + bytes_of w i) bytes))
place_from w bytes (OnSlot sbid index) i = slot sbid (index + i)

-- it has such a page
abbrev pub HasPlace : Width → List ℕ → Start → ℕ → Type 0
HasPlace w bytes (OnUnit unit) i = (unit + i < 2 ^ 32) × (11 + bytes_of w i + bytes_of w 1 ≤ length bytes)
HasPlace w bytes (OnSlot sbid index) i = index + i < 2 ^ 16

-- behind the kind of an extent stand the number of a blob and a slot
pub record IsSlotOf (bytes : List ℕ) (start : Start) : Type 0 where
  pub whole : 10 ≤ length bytes
  pub is : start ≡ OnSlot (from_le_bytes w64 bytes) (from_le_bytes w16 (drop 8 bytes))

-- or a unit, and so many checksums
pub record IsUnitOf (w : Width) (count : ℕ) (bytes : List ℕ) (start : Start) : Type 0 where
  pub whole : 4 + bytes_of w count ≤ length bytes
  pub is : start ≡ OnUnit (from_le_bytes w32 bytes)
