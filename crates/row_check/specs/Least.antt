-- The least unit of which something holds.
use Rattle.std.specs.Prelude.{◌⊎◌, ℕ, ◌<◌, min, map, List, Option, Some, None, MatchOption}
use Rattle.ordered_lists.specs.Lists.{IsIn}
use Rattle.findings.specs.Findings.{SlotCount}
use Rattle.bitmap_freelist.specs.Bitmap.{Units, Has}

-- it holds of this unit, and of none that is less
pub record IsLeastUnit (P : ℕ → Type 0) (unit : ℕ) : Type 0 where
  pub holds : P unit
  pub least : (other : ℕ) → other < unit → ¬ P other

-- the least unit of which it holds, if it holds of one
abbrev pub IsLeastOf : (ℕ → Type 0) → Option ℕ → Type 0
IsLeastOf P found = MatchOption found ((unit : ℕ) → ¬ P unit) (IsLeastUnit P)

-- the unit is one of the first set, and none of the second
abbrev pub IsOnlyIn : Units → Units → ℕ → Type 0
IsOnlyIn units others unit = Has units unit × ¬ Has others unit

-- the unit is that of one of these slots
abbrev pub IsUnitOfSlots : List SlotCount → ℕ → Type 0
IsUnitOfSlots counts unit = IsIn unit (map (λ (x : SlotCount). x.unit) counts)

-- The unit is one of these that have an owner, and none of these that are marked; or one of these that have two owners; or that of one of these slots.
abbrev pub IsWrong : Units → Units → Units → List SlotCount → ℕ → Type 0
IsWrong owned shared marked counts unit = IsOnlyIn owned marked unit ⊎ (Has shared unit ⊎ IsUnitOfSlots counts unit)

-- the lesser of two, where there are two
abbrev pub lesser_of : Option ℕ → Option ℕ → Option ℕ
lesser_of (Some n) (Some m) = Some (min n m)
lesser_of (Some n) None = Some n
lesser_of None other = other
