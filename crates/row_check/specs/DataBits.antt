-- The bits of a row of the bitmap by their places in it.
use Rattle.std.specs.Prelude.{◌≡◌, ℕ, ◌+◌, ◌*◌, ◌/◌, ◌%◌, ◌^◌, List, slice_index}
use Rattle.meta_log.specs.declared.slot.Super.{Super}
use Rattle.store_image.specs.Prelude.{IsDataUnit}

-- the bit at a place of a row
abbrev pub bit_at_place : List ℕ → ℕ → ℕ
bit_at_place bits place = slice_index bits (place / 8) / 2 ^ (place % 8) % 2

-- the bit at this place of row r is 0, or of a data unit
abbrev pub IsBitOfData : Super → ℕ → List ℕ → ℕ → Type 0
IsBitOfData s r bits place = bit_at_place bits place ≡ 1 → IsDataUnit s (128 * r + place)
