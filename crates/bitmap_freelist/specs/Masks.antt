-- Steps on the way: masks made bit by bit, the units of one row at the front of a list, and sets to which marked units are added.
use Rattle.std.specs.Prelude.{◌≡◌, ◌≢◌, ◌↔◌, ◌⊎◌, ℕ, ◌*◌, ◌/◌, ◌%◌, ◌^◌, ◌<◌, ◌≤◌, List, [], ◌∷◌, length, take, slice_index, slice_set, replicate}
use Rattle.std.specs.Prelude.{bit_or}
use Rattle.std.specs.List.{AllByRecursion}
use Rattle.row_format.specs.Prelude.{bitmap_key, bit_in}
use Rattle.bitmap_freelist.specs.Bitmap.{Units, Has}

-- the unit's bit set
abbrev pub with_bit : List ℕ → ℕ → List ℕ
with_bit mask unit = slice_set mask (unit % 128 / 8) (bit_or (slice_index mask (unit % 128 / 8)) (1 * 2 ^ (unit % 8) % 2 ^ 8))

-- these units' bits set
abbrev pub with_bits : List ℕ → List ℕ → List ℕ
with_bits mask [] = mask
with_bits mask (u ∷ us) = with_bits (with_bit mask u) us

-- 16 bytes in which these units' bits are 1
abbrev pub mask_of : List ℕ → List ℕ
mask_of units = with_bits (replicate 16 0) units

-- the first n of these units are of the row, and the next one isn't
pub record IsFrontOfRow (row n : ℕ) (units : List ℕ) : Type 0 where
  pub within : n ≤ length units
  pub of_row : AllByRecursion (λ u. u / 128 ≡ row) (take n units)
  pub ends : n < length units → slice_index units n / 128 ≢ row

-- The set got the units of the row whose bits are 1, those among the first n of its 128.
abbrev pub AddsUpTo : ℕ → ℕ → List ℕ → Units → Units → Type 0
AddsUpTo n row value old new = (unit : ℕ) → Has new unit ↔ (Has old unit ⊎ ((unit / 128 ≡ row) × (unit % 128 < n) × (bit_in value unit ≡ 1)))

-- the row of this key and value says that the unit is taken
abbrev pub IsMarkedBy : ℕ → List ℕ → List ℕ → Type 0
IsMarkedBy unit key value = (unit < 2 ^ 32) × (key ≡ bitmap_key (unit / 128)) × (bit_in value unit ≡ 1)

-- the set got the units that this row says are taken
abbrev pub AddsRow : List ℕ → List ℕ → Units → Units → Type 0
AddsRow key value old new = (unit : ℕ) → Has new unit ↔ (Has old unit ⊎ IsMarkedBy unit key value)
