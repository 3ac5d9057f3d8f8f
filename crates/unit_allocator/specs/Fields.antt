-- What the fields of an allocator stand for.
use Rattle.std.specs.Prelude.{◌≡◌, ℕ, ◌*◌, ◌≤◌, ◌&&◌, ◌==◌, Bool, not, List, map, length, Option, Some, None}
use Rattle.std.specs.Ordering.{nat_cmp}
use Rattle.std.specs.FinMap as finite
use Rattle.std.specs.List.{range_with_len}
use Rattle.unit_allocator.specs.Words.{bit}
use Rattle.unit_allocator.specs.Units.{Space, IsWithin, is_idle}
use Rattle.unit_allocator.specs.Sound.{IsSoundSpace}

-- the bits of the first numbers, as a list
unfoldable pub flags : List ℕ → ℕ → List Bool
flags words count = map (bit words) (range_with_len 0 count)

-- a count that may be absent
abbrev pub count_or_none : Option ℕ → ℕ
count_or_none None = 0
count_or_none (Some n) = n

-- how many hold the unit at a place
unfoldable pub hold_count : finite.FinMap nat_cmp ℕ → ℕ → ℕ
hold_count holds at = count_or_none (finite.get holds at)

-- how many hold each of the first units, as a list
unfoldable pub hold_counts : finite.FinMap nat_cmp ℕ → ℕ → List ℕ
hold_counts holds count = map (hold_count holds) (range_with_len 0 count)

-- the fields stand for a space, and the bits are those of its free units
pub record AreSound (first count : ℕ) (idle : List ℕ) (holds : finite.FinMap nat_cmp ℕ) (words : List ℕ) (free low : ℕ) : Type 0 where
  pub idle_room : count ≤ 64 * length idle
  pub sound : IsSoundSpace first (flags idle count) (hold_counts holds count) words free low

-- the unit isn't idle any more if it was one of the space, and all else is as before
pub record IsWithout (old new : Space) (unit : ℕ) : Type 0 where
  pub first : new.first ≡ old.first
  pub long : length new.idle ≡ length old.idle
  pub holds : new.holds ≡ old.holds
  pub idle : (u : ℕ) → IsWithin old u → is_idle new u ≡ (is_idle old u && not (u == unit))
