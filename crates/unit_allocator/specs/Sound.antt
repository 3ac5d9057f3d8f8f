-- What the fields of an allocator have in common.
use Rattle.std.specs.Prelude.{◌≡◌, ℕ, ◌+◌, ◌*◌, ◌<◌, ◌≤◌, ◌^◌, Bool, false, List, length}
use Rattle.std.specs.List.{filter, range_with_len}
use Rattle.unit_allocator.specs.Words.{bit}
use Rattle.unit_allocator.specs.Units.{idle_and_unheld}

-- the bits are those of the free units, their number is kept, and none is below the low mark
pub record IsSoundSpace (first : ℕ) (idle : List Bool) (holds words : List ℕ) (free low : ℕ) : Type 0 where
  pub holds_all : length holds ≡ length idle
  pub room : length idle ≤ 64 * length words
  pub few : length words < 2 ^ 32
  pub last : first + length idle < 2 ^ 32
  pub bits : (i : ℕ) → bit words i ≡ idle_and_unheld idle holds i
  pub counted : free ≡ length (filter (idle_and_unheld idle holds) (range_with_len 0 (length idle)))
  pub below : (i : ℕ) → i < low → bit words i ≡ false
