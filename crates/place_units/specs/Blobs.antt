-- The values of shared blobs' rows, and the checksums of their slots.
use Rattle.std.specs.Prelude.{ℕ, ◌+◌, ◌≤◌, ◌^◌, List, length, drop, slice_get}
use Rattle.std.specs.Int.{w16, w32, from_le_bytes}
use Rattle.std.specs.Option.{option_map_or}
use Rattle.unit_fields.specs.declared.width.Width.{Width}
use Rattle.row_format.specs.Prelude.{Slot, slots_in}
use Rattle.row_reading.specs.Slots.{slots_size}

-- behind a number of slots there are so many, whole
abbrev pub HasAllSlots : Width → List ℕ → Type 0
HasAllSlots w bytes = 2 + slots_size w (from_le_bytes w16 bytes) ≤ length bytes

-- The value of a blob's row has all slots that it says, and their units have numbers that fit their field.
pub record IsBlobValue (w : Width) (value : List ℕ) : Type 0 where
  pub low : from_le_bytes w32 value + 2 ^ 16 ≤ 2 ^ 32
  pub long : 4 ≤ length value
  pub slots : HasAllSlots w (drop 4 value)

-- the checksum that is kept for a slot, by the number of slots and what stands behind it; 0 where there is no such slot
abbrev pub csum_of_slot : Width → List ℕ → ℕ → ℕ
csum_of_slot w bytes index = option_map_or (λ (x : Slot). x.csum) (slice_get (slots_in w (from_le_bytes w16 bytes) (drop 2 bytes)) index) 0
