-- Sets of units as ascending lists.
use Rattle.std.specs.Prelude.{◌≡◌, ℕ, ◌-◌, ◌<◌, ◌≤◌, List, [], ◌∷◌, length, get_or, slice_index}
use Rattle.ordered_lists.specs.Lists.{Ascend}

-- each unit is below those behind it
abbrev pub Ascends : List ℕ → Type 0
Ascends us = Ascend (λ u v. u < v) us

-- the unit stands at this place
pub record IsPlaceOf (us : List ℕ) (u at : ℕ) : Type 0 where
  pub within : at < length us
  pub same : slice_index us at ≡ u

-- the unit stands nowhere, and would go to this place
pub record IsGapFor (us : List ℕ) (u at : ℕ) : Type 0 where
  pub within : at ≤ length us
  pub below : (k : ℕ) → k < at → slice_index us k < u
  pub above : (k : ℕ) → at ≤ k → k < length us → u < slice_index us k

-- the last one is below the unit
abbrev pub IsAboveLast : List ℕ → ℕ → Type 0
IsAboveLast us u = (0 < length us) × ((d : ℕ) → get_or us (length us - 1) d < u)
