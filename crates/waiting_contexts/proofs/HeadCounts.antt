-- The places in a heap, each counted once where a batch may take its context.
use Rattle.std.proofs.Common.{◌≡◌, inl, inr, ℕ, ◌+◌, ◌<◌, ◌≤◌, ◌==◌, Bool, true, false, cond, List, [], ◌∷◌, map, length, Option, Some, None, is_some, refl, sym, ap, subst, ◌∙◌, arith}
use Rattle.std.specs.Option.{option_map, option_map_or}
use Rattle.std.specs.List.{AllByRecursion}
use Rattle.std.proofs.lemmas.Bool.{eq-eqb, eqb-true, cases_Bool, false≢true}
use Rattle.store_steps.specs.declared.context.Context.{Context}
use Rattle.store_steps.specs.Prelude.{chosen}
use Rattle.waiting_contexts.specs.Unsent.{PlacesAscend}
use Rattle.waiting_contexts.specs.Places.{context_at}
use Rattle.waiting_contexts.specs.Heads.{count_of, IsLeast}
use Rattle.waiting_contexts.specs.Ties.{turns_of, is_ready_at, is_head, AreHeads}
use Rattle.waiting_contexts.proofs.ChosenLemmas.{IsChosen, chosen_is, none_chosen}

abbrev pub one_if : Bool → ℕ
one_if b = cond b 1 0

-- ---- no more places than contexts

-- the places without one of them
abbrev without_one : ℕ → List ℕ → List ℕ
without_one p [] = []
without_one p (q ∷ qs) = cond (q == p) qs (q ∷ without_one p qs)

one_goes : (p : ℕ) (qs : List ℕ) → 0 < count_of p qs → length (without_one p qs) + 1 ≡ length qs
one_goes p [] some = absurd (omega (arith, some))
one_goes p (q ∷ qs) some = elim (cases_Bool (q == p)) [
  | inl here ↦ ap (λ (b : Bool). length (cond b qs (q ∷ without_one p qs)) + 1) here ∙ omega arith
  | inr other ↦
      let none : one_if (q == p) ≡ 0 = ap one_if other in
      let rest = one_goes p qs (omega (arith, some, none)) in
      ap (λ (b : Bool). length (cond b qs (q ∷ without_one p qs)) + 1) other ∙ omega (arith, rest)
]

counts_less : (p r : ℕ) (qs : List ℕ) → 0 < count_of p qs → count_of r qs ≡ one_if (p == r) + count_of r (without_one p qs)
counts_less p r [] some = absurd (omega (arith, some))
counts_less p r (q ∷ qs) some = elim (cases_Bool (q == p)) [
  | inl here ↦
      ap (λ (n : ℕ). one_if (n == r) + count_of r qs) (eqb-true q p here)
      ∙ sym (ap (λ (b : Bool). one_if (p == r) + count_of r (cond b qs (q ∷ without_one p qs))) here)
  | inr other ↦
      let none : one_if (q == p) ≡ 0 = ap one_if other in
      let rest = counts_less p r qs (omega (arith, some, none)) in
      let step : one_if (q == r) + count_of r qs ≡ one_if (p == r) + (one_if (q == r) + count_of r (without_one p qs)) = omega (arith, rest) in
      step ∙ sym (ap (λ (b : Bool). one_if (p == r) + count_of r (cond b qs (q ∷ without_one p qs))) other)
]

-- places that are counted among others are no more than these
pub no_more : (ps qs : List ℕ) → ((r : ℕ) → count_of r ps ≤ count_of r qs) → length ps ≤ length qs
no_more [] qs among = omega arith
no_more (p ∷ ps) qs among =
    let own : one_if (p == p) ≡ 1 = ap one_if (eq-eqb p p refl) in
    let some : 0 < count_of p qs = omega (arith, among p, own) in
    let rest = no_more ps (without_one p qs) (λ r. omega (arith, among r, counts_less p r qs some)) in
    omega (arith, rest, one_goes p qs some)

abbrev places : List Context → List ℕ
places xs = map (λ (x : Context). x.place) xs

has_place : (q : ℕ) (xs : List Context) → is_some (context_at q xs) ≡ true → 0 < count_of q (places xs)
has_place q [] some = absurd (false≢true some)
has_place q (x ∷ xs) some = elim (cases_Bool (x.place == q)) [
  | inl here ↦
      let own : one_if (x.place == q) ≡ 1 = ap one_if here in
      omega (arith, own)
  | inr other ↦
      let later : is_some (context_at q xs) ≡ true = sym (ap (λ (b : Bool). is_some (cond b (Some x) (context_at q xs))) other) ∙ some in
      omega (arith, has_place q xs later)
]

head_is_there : (q : ℕ) (xs : List Context) (o : Option Context) → context_at q xs ≡ o
    → option_map_or (λ (x : Context). is_ready_at q (turns_of x.coll xs)) o false ≡ true → is_some (context_at q xs) ≡ true
head_is_there q xs None is head = absurd (false≢true head)
head_is_there q xs (Some x) is head = ap is_some is

by_context : (f : List ℕ → Bool) (o : Option Context) → option_map_or f (option_map (λ (x : Context). x.coll) o) false ≡ option_map_or (λ (x : Context). f x.coll) o false
by_context f None = refl
by_context f (Some x) = refl

count_places : (xs : List Context) → length (places xs) ≡ length xs
count_places [] = refl
count_places (x ∷ xs) = omega (arith, count_places xs)

-- each place is counted among those of the contexts
counted_among : (ps : List ℕ) (xs : List Context) → AreHeads ps xs → (q : ℕ) → count_of q ps ≤ count_of q (places xs)
counted_among ps xs are q = by_test (is_head q xs) refl
  where
    by_test : (b : Bool) → is_head q xs ≡ b → count_of q ps ≤ count_of q (places xs)
    by_test true head =
        let there : is_some (context_at q xs) ≡ true = head_is_there q xs (context_at q xs) refl (sym (by_context (λ c. is_ready_at q (turns_of c xs)) (context_at q xs)) ∙ head) in
        let one : one_if (is_head q xs) ≡ 1 = ap one_if head in
        omega (arith, are q, one, has_place q xs there)
    by_test false none =
        let zero : one_if (is_head q xs) ≡ 0 = ap one_if none in
        omega (arith, are q, zero)

pub heads_fit : (ps : List ℕ) (xs : List Context) → AreHeads ps xs → length ps ≤ length xs
heads_fit ps xs are = omega (arith, no_more ps (places xs) (counted_among ps xs are), count_places xs)

-- where a context can't be taken, there are fewer of them than contexts
pub heads_leave_room : (p : ℕ) (ps : List ℕ) (xs : List Context) (x : Context) → AreHeads ps xs → is_head p xs ≡ false → context_at p xs ≡ Some x → length ps < length xs
heads_leave_room p ps xs x are none at = omega (arith, no_more (p ∷ ps) (places xs) among, count_places xs)
  where
    by_test : (q : ℕ) (b : Bool) → (p == q) ≡ b → count_of q (p ∷ ps) ≤ count_of q (places xs)
    by_test q true same =
        let is : p ≡ q = eqb-true p q same in
        let one : one_if (p == q) ≡ 1 = ap one_if same in
        let zero : one_if (is_head q xs) ≡ 0 = ap (λ (n : ℕ). one_if (is_head n xs)) (sym is) ∙ ap one_if none in
        let there : is_some (context_at q xs) ≡ true = ap (λ (n : ℕ). is_some (context_at n xs)) (sym is) ∙ ap is_some at in
        omega (arith, one, are q, zero, has_place q xs there)
    by_test q false other =
        let zero : one_if (p == q) ≡ 0 = ap one_if other in
        omega (arith, zero, counted_among ps xs are q)

    among : (q : ℕ) → count_of q (p ∷ ps) ≤ count_of q (places xs)
    among q = by_test q (p == q) refl

-- ---- the least of the places is that of the context that is chosen

pub is_counted : (p : ℕ) (ps : List ℕ) (least : ℕ) → AllByRecursion (λ q. least ≤ q) ps → 0 < count_of p ps → least ≤ p
is_counted p [] least all some = absurd (omega (arith, some))
is_counted p (q ∷ qs) least all some = elim (cases_Bool (q == p)) [
  | inl here ↦ omega (arith, all.0, eqb-true q p here)
  | inr other ↦
      let none : one_if (q == p) ≡ 0 = ap one_if other in
      is_counted p qs least all.1 (omega (arith, some, none))
]

pub none_where_empty : (xs : List Context) (ps : List ℕ) → PlacesAscend 0 xs → AreHeads ps xs → ps ≡ [] → chosen xs ≡ None
none_where_empty xs ps up are none = by_choice (chosen xs) refl
  where
    by_choice : (o : Option Context) → chosen xs ≡ o → o ≡ None
    by_choice None is = refl
    by_choice (Some x) is =
        let one : one_if (is_head x.place xs) ≡ 1 = ap one_if (chosen_is xs x up is).head in
        let zero : count_of x.place ps ≡ 0 = ap (count_of x.place) none in
        absurd (omega (arith, are x.place, one, zero))

-- the context at the least place is the one that is chosen
pub record IsTaken (xs : List Context) (p : ℕ) : Type 0 where
  pub context : Context
  pub chosen_is : chosen xs ≡ Some context
  pub at : context_at p xs ≡ Some context
  pub of_place : context.place ≡ p
  pub what : IsChosen xs context

pub least_is_chosen : (xs : List Context) (ps : List ℕ) (p : ℕ) → PlacesAscend 0 xs → AreHeads ps xs → IsLeast p ps → IsTaken xs p
least_is_chosen xs ps p up are is_least = by_choice (chosen xs) refl
  where
    is_in : (b : Bool) → is_head p xs ≡ b → b ≡ true
    is_in true head = refl
    is_in false none =
        let zero : one_if (is_head p xs) ≡ 0 = ap one_if none in
        absurd (omega (arith, are p, zero, is_least.among))

    by_choice : (o : Option Context) → chosen xs ≡ o → IsTaken xs p
    by_choice None is = absurd (false≢true (sym (none_chosen xs p up is) ∙ is_in (is_head p xs) refl))
    by_choice (Some x) is =
        let what : IsChosen xs x = chosen_is xs x up is in
        let one : one_if (is_head x.place xs) ≡ 1 = ap one_if what.head in
        let below : x.place ≤ p = what.first p (is_in (is_head p xs) refl) in
        let above : p ≤ x.place = is_counted x.place ps p is_least.least (omega (arith, are x.place, one)) in
        let same : x.place ≡ p = omega (arith, below, above) in
        record {
          context = x;
          chosen_is = is;
          at = subst (λ (n : ℕ). context_at n xs ≡ Some x) same what.at;
          of_place = same;
          what = what;
        }
