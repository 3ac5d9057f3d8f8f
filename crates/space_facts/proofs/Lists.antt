-- Lists: their last ones, what holds of all, and how often a unit stands in one.
use Rattle.std.proofs.Common.{◌≡◌, ◌≢◌, ◌⊎◌, inl, inr, ℕ, zero, suc, ◌+◌, ◌<◌, ◌≤◌, ◌==◌, cond, List, [], ◌∷◌, ◌++◌, length, get_or, Contains, refl, sym, ap, subst, ◌∙◌, append_assoc, append-nil, arith}
use Rattle.std.specs.Prelude.{slice_index, count_by}
use Rattle.std.specs.List.{AllByRecursion}
use Rattle.std.proofs.lemmas.Bool.{cases_eq, eq-eqb, ne_eqb}
use Rattle.std.proofs.lemmas.List.Sums.{sum_by-cons, sum_by-append}
use Rattle.unit_fields.specs.Prelude.{Ascends}
use Rattle.unit_allocator.proofs.Lists.{Contains-head, Contains-tail, Contains-cases, above_first}
use Rattle.plan_rows.specs.Prelude.{StandsOnce}

-- ---- what holds of all

module _ {A : Type 0} (P : A → Type 0) where
  pub all_rest : (xs ys : List A) → AllByRecursion P (xs ++ ys) → AllByRecursion P ys
  all_rest [] ys all = all
  all_rest (x ∷ xs) ys all = all_rest xs ys all.1

  pub all_join : (xs ys : List A) → AllByRecursion P xs → AllByRecursion P ys → AllByRecursion P (xs ++ ys)
  all_join [] ys all more = more
  all_join (x ∷ xs) ys all more = (all.0, all_join xs ys all.1 more)

-- what holds of none, and goes on with one more behind, holds of each list
pub by_ends : {A : Type 0} (Q : List A → Type 0) → Q [] → ((xs : List A) (x : A) → Q xs → Q (xs ++ x ∷ [])) → (xs : List A) → Q xs
by_ends {A} Q none more xs = from [] xs none
  where
    from : (front rest : List A) → Q front → Q (front ++ rest)
    from front [] q = subst Q (sym (append-nil front)) q
    from front (x ∷ rest) q = subst Q (append_assoc front (x ∷ []) rest) (from (front ++ x ∷ []) rest (more front x q))

pub listed_all : (P : ℕ → Type 0) (us : List ℕ) (u : ℕ) → AllByRecursion P us → Contains us u → P u
listed_all P [] u all c = absurd (omega (arith, c.1))
listed_all P (v ∷ us) u all c = elim (Contains-cases v u us c) [ inl e ↦ subst P e all.0 | inr d ↦ listed_all P us u all.1 d ]

pub all_listed : (P : ℕ → Type 0) (us : List ℕ) → ((u : ℕ) → Contains us u → P u) → AllByRecursion P us
all_listed P [] each = tt
all_listed P (u ∷ us) each = (each u (Contains-head u us), all_listed P us (λ v c. each v (Contains-tail u v us c)))

pub in_or_not : (us : List ℕ) (u : ℕ) → Contains us u ⊎ (Contains us u → ⊥)
in_or_not [] u = inr (λ c. omega (arith, c.1))
in_or_not (v ∷ us) u = elim (cases_eq v u) [
  | inl e ↦ inl (subst (λ (x : ℕ). Contains (v ∷ us) x) e (Contains-head v us))
  | inr other ↦ elim (in_or_not us u) [
    | inl c ↦ inl (Contains-tail v u us c)
    | inr none ↦ inr (λ c. elim (Contains-cases v u us c) [ inl e ↦ other e | inr d ↦ none d ])
  ]
]

-- ---- lists that end in the same

pub same_ends : {A : Type 0} (xs ys : List A) (x y : A) → xs ++ x ∷ [] ≡ ys ++ y ∷ [] → (xs ≡ ys) × (x ≡ y)
same_ends [] [] x y e = (refl, cc)
same_ends [] (z ∷ []) x y e = absurd cc
same_ends [] (z ∷ w ∷ zs) x y e = absurd cc
same_ends (v ∷ []) [] x y e = absurd cc
same_ends (v ∷ w ∷ vs) [] x y e = absurd cc
same_ends (v ∷ vs) (z ∷ zs) x y e =
    let head : v ≡ z = cc in
    let tail : vs ++ x ∷ [] ≡ zs ++ y ∷ [] = cc in
    let rest : (vs ≡ zs) × (x ≡ y) = same_ends vs zs x y tail in
    (ap (λ u. u ∷ vs) head ∙ ap (λ l. z ∷ l) rest.0, rest.1)

-- ---- how often a unit stands in a list

abbrev pub times : ℕ → List ℕ → ℕ
times unit us = count_by (λ u. u == unit) us

abbrev here : ℕ → ℕ → ℕ
here unit u = cond (u == unit) 1 0

times_first : (unit u : ℕ) (us : List ℕ) → times unit (u ∷ us) ≡ here unit u + times unit us
times_first unit u us = sum_by-cons (λ v. cond (v == unit) 1 0) u us

pub times_append : (unit : ℕ) (us vs : List ℕ) → times unit (us ++ vs) ≡ times unit us + times unit vs
times_append unit us vs = sum_by-append (λ v. cond (v == unit) 1 0) us vs

is_here : (unit u : ℕ) → u ≡ unit → here unit u ≡ 1
is_here unit u e = ap (λ b. cond b 1 0) (eq-eqb u unit e)

not_here : (unit u : ℕ) → u ≢ unit → here unit u ≡ 0
not_here unit u e = ap (λ b. cond b 1 0) (ne_eqb u unit e)

pub times_none : (unit : ℕ) (us : List ℕ) → (Contains us unit → ⊥) → times unit us ≡ 0
times_none unit [] none = refl
times_none unit (u ∷ us) none =
    let rest : times unit us ≡ 0 = times_none unit us (λ c. none (Contains-tail u unit us c)) in
    let other : u ≢ unit = λ e. none (subst (λ (x : ℕ). Contains (u ∷ us) x) e (Contains-head u us)) in
    omega (arith, times_first unit u us, not_here unit u other, rest)

pub times_some : (unit : ℕ) (us : List ℕ) → Contains us unit → 1 ≤ times unit us
times_some unit [] c = absurd (omega (arith, c.1))
times_some unit (u ∷ us) c = elim (Contains-cases u unit us c) [
  | inl e ↦ omega (arith, times_first unit u us, is_here unit u e)
  | inr d ↦ omega (arith, times_first unit u us, times_some unit us d)
]

pub some_times : (unit : ℕ) (us : List ℕ) → 1 ≤ times unit us → Contains us unit
some_times unit us least = elim (in_or_not us unit) [ inl c ↦ c | inr none ↦ absurd (omega (arith, least, times_none unit us none)) ]

-- one that ascends has each once
pub times_ascending : (unit : ℕ) (us : List ℕ) → Ascends us → times unit us ≤ 1
times_ascending unit [] ascend = omega arith
times_ascending unit (u ∷ us) ascend = elim (cases_eq u unit) [
  | inl e ↦
      let none : times unit us ≡ 0 = times_none unit us (λ c. absurd (omega (arith, e, above_first u unit us ascend.0 c))) in
      omega (arith, times_first unit u us, is_here unit u e, none)
  | inr other ↦ omega (arith, times_first unit u us, not_here unit u other, times_ascending unit us ascend.1)
]

at_index : (us : List ℕ) (k u : ℕ) → k < length us → get_or us k u ≡ u → slice_index us k ≡ u
at_index [] k u below at = absurd (omega (arith, below))
at_index (v ∷ us) zero u below at = at
at_index (v ∷ us) (suc k) u below at = at_index us k u (omega (arith, below)) at

index_at : (us : List ℕ) (k u : ℕ) → k < length us → slice_index us k ≡ u → Contains us u
index_at [] k u below at = absurd (omega (arith, below))
index_at (v ∷ us) zero u below at = subst (λ (x : ℕ). Contains (v ∷ us) x) at (Contains-head v us)
index_at (v ∷ us) (suc k) u below at = Contains-tail v u us (index_at us k u (omega (arith, below)) at)

-- one that stands once stands at most one time
pub times_once : (unit : ℕ) (us : List ℕ) → StandsOnce us unit → times unit us ≤ 1
times_once unit [] once = omega arith
times_once unit (u ∷ us) once = elim (cases_eq u unit) [
  | inl e ↦
      let none : times unit us ≡ 0 = times_none unit us (λ c. behind e c.0 c.1 c.2) in
      omega (arith, times_first unit u us, is_here unit u e, none)
  | inr other ↦ omega (arith, times_first unit u us, not_here unit u other, times_once unit us later)
]
  where
    behind : u ≡ unit → (k : ℕ) → k < length us → get_or us k unit ≡ unit → ⊥
    behind e k below at =
        let same : 0 ≡ suc k = once 0 (suc k) (omega arith) (omega (arith, below)) e (at_index us k unit below at) in
        omega (arith, same)

    later : StandsOnce us unit
    later i j in_i in_j at_i at_j =
        let same : suc i ≡ suc j = once (suc i) (suc j) (omega (arith, in_i)) (omega (arith, in_j)) at_i at_j in
        omega (arith, same)

pub once_times : (unit : ℕ) (us : List ℕ) → times unit us ≤ 1 → StandsOnce us unit
once_times unit [] most i j in_i in_j at_i at_j = absurd (omega (arith, in_i))
once_times unit (u ∷ us) most zero zero in_i in_j at_i at_j = refl
once_times unit (u ∷ us) most zero (suc j) in_i in_j at_i at_j =
    absurd (omega (arith, most, times_first unit u us, is_here unit u at_i, times_some unit us (index_at us j unit (omega (arith, in_j)) at_j)))
once_times unit (u ∷ us) most (suc i) zero in_i in_j at_i at_j =
    absurd (omega (arith, most, times_first unit u us, is_here unit u at_j, times_some unit us (index_at us i unit (omega (arith, in_i)) at_i)))
once_times unit (u ∷ us) most (suc i) (suc j) in_i in_j at_i at_j =
    ap suc (once_times unit us (omega (arith, most, times_first unit u us)) i j (omega (arith, in_i)) (omega (arith, in_j)) at_i at_j)
