-- Units that can be taken and given back.
use Rattle.std.specs.Prelude.{◌≡◌, ℕ, ◌+◌, ◌<◌, ◌^◌, true, false, List, ◌∷◌, ◌++◌}
use Rattle.std.specs.List.{AllByRecursion}
use Rattle.unit_allocator.specs.Prelude.{Space, IsWithin, is_free, given}

-- a free unit of the space
pub record IsFreeUnit (space : Space) (unit : ℕ) : Type 0 where
  pub within : IsWithin space unit
  pub free : is_free space unit ≡ true

-- a unit of the space that isn't free
pub record IsTakenUnit (space : Space) (unit : ℕ) : Type 0 where
  pub within : IsWithin space unit
  pub taken : is_free space unit ≡ false
  pub fits : unit + 1 < 2 ^ 32

abbrev pub CanBeTaken : List ℕ → Space → Type 0
CanBeTaken units space = AllByRecursion (IsFreeUnit space) units

-- one after the other: each isn't free when its turn comes, once those before it were given
abbrev pub CanBeGiven : List ℕ → Space → Type 0
CanBeGiven units space = (front rest : List ℕ) (unit : ℕ) → units ≡ front ++ (unit ∷ rest) → IsTakenUnit (given space front) unit
