-- Contexts by place.
use Rattle.std.specs.Prelude.{◌≡◌, ℕ, ◌+◌, ◌<◌, ◌≤◌, ◌==◌, Bool, false, List, [], ◌∷◌, ◌++◌, find, Option, IfSome}
use Rattle.std.specs.List.{AllByRecursion}
use Rattle.std.specs.Option.{option_map_or, option_to_list}
use Rattle.store_steps.specs.declared.context.Context.{Context}
use Rattle.store_steps.specs.Prelude.{is_done}

-- the entries have ascending keys, from this one on, and each key is the place of its context
abbrev pub AreByPlace : ℕ → List (ℕ × Context) → Type 0
AreByPlace least [] = Unit {0}
AreByPlace least (e ∷ es) = (e.1.place ≡ e.0) × (least ≤ e.0) × AreByPlace (e.0 + 1) es

-- the older contexts, and the newest behind them
abbrev pub with_newest : Option Context → List Context → List Context
with_newest newest older = older ++ option_to_list newest

-- the newest has this place
abbrev pub is_newest_at : ℕ → Option Context → Bool
is_newest_at place newest = option_map_or (λ (x : Context). x.place == place) newest false

-- the place is above those of all contexts
abbrev pub IsAboveAll : ℕ → List Context → Type 0
IsAboveAll place xs = AllByRecursion (λ x. x.place < place) xs

-- the context at a place
abbrev pub context_at : ℕ → List Context → Option Context
context_at place xs = find (λ x. x.place == place) xs

-- the context at a place has reached the device with all its units
abbrev pub is_done_at : ℕ → List Context → Bool
is_done_at place xs = option_map_or (λ (x : Context). is_done x) (context_at place xs) false

-- the last context has this place, which is above the others
pub record IsLastPlace (place : ℕ) (xs : List Context) : Type 0 where
  pub front : List Context
  pub last : Context
  pub is : xs ≡ front ++ last ∷ []
  pub of_place : last.place ≡ place
  pub above : IsAboveAll place front

-- the newest is above the older ones
abbrev pub IsNewest : Option Context → List Context → Type 0
IsNewest newest older = IfSome newest (λ x. IsAboveAll x.place older)
