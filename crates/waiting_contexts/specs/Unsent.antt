-- The contexts that have a data write left.
use Rattle.std.specs.Prelude.{◌≡◌, ℕ, ◌+◌, ◌≤◌, List, [], ◌∷◌, length, Bool, false, Option, Some, is_some, if◌then◌else◌}
use Rattle.std.specs.Option.{option_map_or}
use Rattle.store_steps.specs.declared.context.Context.{Context}
use Rattle.store_steps.specs.Prelude.{Unsent, unsent, unsent_units}
use Rattle.waiting_contexts.specs.Places.{context_at}

-- their places, in the order of the contexts
abbrev pub unsent_places : List Context → List ℕ
unsent_places [] = []
unsent_places (x ∷ xs) = if is_some (unsent x) then x.place ∷ unsent_places xs else unsent_places xs

-- the places of contexts ascend, from this one on
abbrev pub PlacesAscend : ℕ → List Context → Type 0
PlacesAscend least [] = Unit {0}
PlacesAscend least (x ∷ xs) = (least ≤ x.place) × PlacesAscend (x.place + 1) xs

-- the context at a place has a data write left
abbrev pub has_unsent_at : ℕ → List Context → Bool
has_unsent_at place xs = option_map_or (λ x. is_some (unsent x)) (context_at place xs) false

-- so many units are the first ones of this data write, and it is of the context at this place
pub record IsOfNext (place count : ℕ) (write : Option Unsent) : Type 0 where
  pub next : Unsent
  pub is_next : write ≡ Some next
  pub of_place : next.place ≡ place
  pub within : count ≤ length (unsent_units next)
