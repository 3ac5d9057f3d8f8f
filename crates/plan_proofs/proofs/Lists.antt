-- Members of lists.
use Rattle.std.proofs.Common.{inl, inr, ℕ, List, [], ◌∷◌, ◌++◌, Contains, subst, arith}
use Rattle.std.specs.List.{AllByRecursion}
use Rattle.unit_allocator.proofs.Lists.{Contains-head, Contains-tail, Contains-cases}

-- what holds of all holds of each that is contained
pub all_in : (P : ℕ → Type 0) (us : List ℕ) → AllByRecursion P us → (v : ℕ) → Contains us v → P v
all_in P [] all v k = absurd (omega (arith, k.1))
all_in P (u ∷ us) all v k = elim (Contains-cases u v us k) [ inl e ↦ subst P e all.0 | inr later ↦ all_in P us all.1 v later ]

-- what is contained in one of two lists is so in both together
pub Contains-left : (xs ys : List ℕ) (v : ℕ) → Contains xs v → Contains (xs ++ ys) v
Contains-left [] ys v k = absurd (omega (arith, k.1))
Contains-left (x ∷ xs) ys v k = elim (Contains-cases x v xs k) [
  | inl e ↦ subst (Contains (x ∷ (xs ++ ys))) e (Contains-head x (xs ++ ys))
  | inr later ↦ Contains-tail x v (xs ++ ys) (Contains-left xs ys v later)
]

pub Contains-right : (xs ys : List ℕ) (v : ℕ) → Contains ys v → Contains (xs ++ ys) v
Contains-right [] ys v k = k
Contains-right (x ∷ xs) ys v k = Contains-tail x v (xs ++ ys) (Contains-right xs ys v k)
