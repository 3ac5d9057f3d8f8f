-- Lists in ascending order, and those that have exactly the things of which something holds.
use Rattle.std.specs.Prelude.{◌≡◌, ◌⊎◌, List, [], ◌∷◌}
use Rattle.std.specs.List.{AllByRecursion}

-- the list has it
abbrev pub IsIn : {A : Type 0} → A → List A → Type 0
IsIn x [] = ⊥
IsIn x (y ∷ ys) = (y ≡ x) ⊎ IsIn x ys

-- each comes before those behind it
abbrev pub Ascend : {A : Type 0} → (A → A → Type 0) → List A → Type 0
Ascend Before [] = Unit {0}
Ascend Before (x ∷ xs) = AllByRecursion (Before x) xs × Ascend Before xs

-- in ascending order, exactly those of which P holds
pub record ListsAll {A : Type 0} (Before : A → A → Type 0) (P : A → Type 0) (xs : List A) : Type 0 where
  pub ascend : Ascend Before xs
  pub each : AllByRecursion P xs
  pub all : (x : A) → P x → IsIn x xs
