-- What becomes of turns, and of the contexts that a batch may take, where one is taken.
use Rattle.std.proofs.Common.{◌≡◌, inl, inr, ◌&&◌, ℕ, ◌+◌, ◌<◌, ◌≤◌, ◌==◌, not, Bool, true, false, cond, List, [], ◌∷◌, Option, Some, None, refl, sym, ap, ◌∙◌, arith}
use Rattle.std.specs.Option.{option_map, option_map_or}
use Rattle.std.proofs.lemmas.Option.{same_Some}
use Rattle.std.proofs.lemmas.Bool.{eqb-true, cases_Bool, and_parts, false≢true, false_from_ne_true}
use Rattle.object_model.specs.Prelude.{is_same}
use Rattle.object_model.proofs.Names.{same_name, is_same_itself}
use Rattle.op_sequencer.specs.declared.sequencer.Turn.{Turn}
use Rattle.op_sequencer.specs.Turns.{ready, without_ready}
use Rattle.store_steps.specs.declared.context.Context.{Context}
use Rattle.store_steps.specs.Prelude.{is_done, without_context}
use Rattle.waiting_contexts.specs.Unsent.{PlacesAscend}
use Rattle.waiting_contexts.specs.Places.{context_at}
use Rattle.waiting_contexts.specs.Heads.{count_of}
use Rattle.waiting_contexts.specs.Ties.{turn_of, turns_of, is_ready_at, is_head, AreHeads}
use Rattle.waiting_contexts.proofs.Ascending.{none_goes}
use Rattle.waiting_contexts.proofs.ChosenLemmas.{ready_by}
use Rattle.waiting_contexts.proofs.HeadCounts.{one_if}
use Rattle.waiting_contexts.proofs.StepLemmas.{IsReady, ready_there, head_at}

-- ---- the turn of the one that goes was the first of its collection

first_goes : (s : Bool) (y : Context) (ts : List Turn) → is_done y ≡ true → cond s ts ts ≡ cond s (without_ready (cond s (turn_of y ∷ ts) ts)) (cond s (turn_of y ∷ ts) ts)
first_goes true y ts done = sym (ap (λ (b : Bool). cond b ts (turn_of y ∷ ts)) done)
first_goes false y ts done = refl

any_cond : (s : Bool) (ts : List Turn) → ts ≡ cond s ts ts
any_cond true ts = refl
any_cond false ts = refl

later_goes : (s b : Bool) (y : Context) (ts : List Turn) → (s ≡ true → b ≡ true → ⊥)
    → cond b (turn_of y ∷ cond s (without_ready ts) ts) (cond s (without_ready ts) ts)
    ≡ cond s (without_ready (cond b (turn_of y ∷ ts) ts)) (cond b (turn_of y ∷ ts) ts)
later_goes true true y ts apart = absurd (apart refl refl)
later_goes true false y ts apart = refl
later_goes false true y ts apart = refl
later_goes false false y ts apart = refl

none_first : (a : Bool) → (a && false) ≡ false
none_first true = refl
none_first false = refl

-- before the context at a place that is the first of its collection, none has its collection
others_before : (p : ℕ) (c : List ℕ) (y : Context) (ts : List Turn) (b : Bool) → (y.place == p) ≡ false → is_same c y.coll ≡ b
    → is_ready_at p (cond b (turn_of y ∷ ts) ts) ≡ true → (b ≡ false) × (is_ready_at p ts ≡ true)
others_before p c y ts true other same h =
    absurd (false≢true (sym (ready_by (is_done y) y.place p ∙ ap (λ (b : Bool). is_done y && b) other ∙ none_first (is_done y)) ∙ h))
others_before p c y ts false other same h = (refl, h)

pub turns_left : (least : ℕ) (c : List ℕ) (p : ℕ) (xs : List Context) (x : Context) → PlacesAscend least xs → context_at p xs ≡ Some x → is_done x ≡ true
    → is_ready_at p (turns_of x.coll xs) ≡ true → turns_of c (without_context p xs) ≡ cond (is_same c x.coll) (without_ready (turns_of c xs)) (turns_of c xs)
turns_left least c p [] x up at done first = absurd (cc)
turns_left least c p (y ∷ ys) x up at done first = elim (cases_Bool (y.place == p)) [
  | inl here ↦
      let same : y ≡ x = same_Some y x (sym (ap (λ (b : Bool). cond b (Some y) (context_at p ys)) here) ∙ at) in
      let below : p < y.place + 1 = omega (arith, eqb-true y.place p here) in
      ap (λ (b : Bool). turns_of c (cond (not b) (y ∷ without_context p ys) (without_context p ys))) here
      ∙ ap (turns_of c) (none_goes (y.place + 1) p ys up.1 below)
      ∙ any_cond (is_same c y.coll) (turns_of c ys)
      ∙ first_goes (is_same c y.coll) y (turns_of c ys) (ap is_done same ∙ done)
      ∙ ap (λ (z : Context). cond (is_same c z.coll) (without_ready (turns_of c (y ∷ ys))) (turns_of c (y ∷ ys))) same
  | inr other ↦
      let before = others_before p x.coll y (turns_of x.coll ys) (is_same x.coll y.coll) other refl first in
      let apart : is_same c x.coll ≡ true → is_same c y.coll ≡ true → ⊥ =
      λ e f. false≢true (sym before.0 ∙ ap (λ (z : List ℕ). is_same z y.coll) (sym (same_name c x.coll e)) ∙ f) in
      ap (λ (b : Bool). turns_of c (cond (not b) (y ∷ without_context p ys) (without_context p ys))) other
      ∙ ap (λ (l : List Turn). cond (is_same c y.coll) (turn_of y ∷ l) l)
      (turns_left (y.place + 1) c p ys x up.1 (sym (ap (λ (b : Bool). cond b (Some y) (context_at p ys)) other) ∙ at) done before.1)
      ∙ later_goes (is_same c x.coll) (is_same c y.coll) y (turns_of c ys) apart
]

-- ---- the contexts that are left

pub at_left : (p q : ℕ) (xs : List Context) → (p == q) ≡ false → context_at q (without_context p xs) ≡ context_at q xs
at_left p q [] other = refl
at_left p q (y ∷ ys) other = elim (cases_Bool (y.place == p)) [
  | inl here ↦
      let apart : (y.place == q) ≡ false = ap (λ (n : ℕ). n == q) (eqb-true y.place p here) ∙ other in
      ap (λ (b : Bool). context_at q (cond (not b) (y ∷ without_context p ys) (without_context p ys))) here
      ∙ at_left p q ys other
      ∙ sym (ap (λ (b : Bool). cond b (Some y) (context_at q ys)) apart)
  | inr there ↦
      ap (λ (b : Bool). context_at q (cond (not b) (y ∷ without_context p ys) (without_context p ys))) there
      ∙ ap (λ (o : Option Context). cond (y.place == q) (Some y) o) (at_left p q ys other)
]

pub none_left : (p : ℕ) (xs : List Context) → context_at p (without_context p xs) ≡ None
none_left p [] = refl
none_left p (y ∷ ys) = elim (cases_Bool (y.place == p)) [
  | inl here ↦ ap (λ (b : Bool). context_at p (cond (not b) (y ∷ without_context p ys) (without_context p ys))) here ∙ none_left p ys
  | inr there ↦
      ap (λ (b : Bool). context_at p (cond (not b) (y ∷ without_context p ys) (without_context p ys))) there
      ∙ ap (λ (b : Bool). cond b (Some y) (context_at p (without_context p ys))) there
      ∙ none_left p ys
]

lower_places : (least lower : ℕ) (xs : List Context) → PlacesAscend least xs → lower ≤ least → PlacesAscend lower xs
lower_places least lower [] up le = tt
lower_places least lower (x ∷ xs) up le = (omega (arith, le, up.0), up.1)

left_by : (b : Bool) (least : ℕ) (y : Context) (rest : List Context) → least ≤ y.place → PlacesAscend (y.place + 1) rest → PlacesAscend least (cond (not b) (y ∷ rest) rest)
left_by true least y rest le up = lower_places (y.place + 1) least rest up (omega (arith, le))
left_by false least y rest le up = (le, up)

pub left_ascend : (least p : ℕ) (xs : List Context) → PlacesAscend least xs → PlacesAscend least (without_context p xs)
left_ascend least p [] up = tt
left_ascend least p (y ∷ ys) up = left_by (y.place == p) least y (without_context p ys) up.0 (left_ascend (y.place + 1) p ys up.1)

-- ---- the places that are left, and that of the next of the collection

first_not : (p q : ℕ) (ts : List Turn) → is_ready_at p ts ≡ true → (p == q) ≡ false → is_ready_at q ts ≡ false
first_not p q [] first other = absurd (false≢true first)
first_not p q (t ∷ ts) first other =
    let both = and_parts t.done (t.place == p) (sym (ready_by t.done t.place p) ∙ first) in
    ready_by t.done t.place q ∙ ap (λ (b : Bool). t.done && b) (ap (λ (n : ℕ). n == q) (eqb-true t.place p both.1) ∙ other) ∙ none_first t.done

-- the counts of the places behind the one that was taken off
abbrev pub AreLeft : ℕ → List ℕ → List ℕ → Type 0
AreLeft p ps left = (q : ℕ) → count_of q ps ≡ count_of q (p ∷ left)

pub record Leaves (p : ℕ) (xs : List Context) (x : Context) : Type 0 where
  pub up : PlacesAscend 0 xs
  pub at : context_at p xs ≡ Some x
  pub done : is_done x ≡ true
  pub head : is_head p xs ≡ true

is_first : (p : ℕ) (xs : List Context) (x : Context) → Leaves p xs x → is_ready_at p (turns_of x.coll xs) ≡ true
is_first p xs x l = sym (head_at p xs x l.at) ∙ l.head

-- where a place is the next of the collection, its context was there and is of the collection
next_there : (p q : ℕ) (xs : List Context) (x : Context) → Leaves p xs x → is_ready_at q (turns_of x.coll (without_context p xs)) ≡ true
    → IsReady q x.coll (without_context p xs)
next_there p q xs x l next = ready_there 0 q x.coll (without_context p xs) (left_ascend 0 p xs l.up) next

-- it isn't the place that was taken
own_not_next : (p : ℕ) (xs : List Context) (x : Context) → Leaves p xs x → is_ready_at p (turns_of x.coll (without_context p xs)) ≡ false
own_not_next p xs x l = false_from_ne_true (is_ready_at p (turns_of x.coll (without_context p xs))) (λ next. contradiction (next_there p p xs x l next))
  where
    contradiction : IsReady p x.coll (without_context p xs) → ⊥
    contradiction r =
        let none : ◌≡◌ {A = Option Context} None (Some r.context) = sym (none_left p xs) ∙ r.at in
        absurd (cc)

own_is_gone : (p : ℕ) (xs : List Context) → is_head p (without_context p xs) ≡ false
own_is_gone p xs =
    ap (λ (o : Option Context). option_map_or (λ c. is_ready_at p (turns_of c (without_context p xs))) (option_map (λ (z : Context). z.coll) o) false) (none_left p xs)

-- a place that had no context has none
none_next : (p q : ℕ) (xs : List Context) (x : Context) → Leaves p xs x → (p == q) ≡ false → context_at q xs ≡ None
    → is_ready_at q (turns_of x.coll (without_context p xs)) ≡ false
none_next p q xs x l other none =
    false_from_ne_true (is_ready_at q (turns_of x.coll (without_context p xs))) (λ next. contradiction (next_there p q xs x l next))
  where
    contradiction : IsReady q x.coll (without_context p xs) → ⊥
    contradiction r =
        let found : ◌≡◌ {A = Option Context} None (Some r.context) = sym none ∙ sym (at_left p q xs other) ∙ r.at in
        absurd (cc)

-- nor is one of another collection the next
other_not_next : (p q : ℕ) (xs : List Context) (x y : Context) → Leaves p xs x → (p == q) ≡ false → context_at q xs ≡ Some y → is_same y.coll x.coll ≡ false
    → is_ready_at q (turns_of x.coll (without_context p xs)) ≡ false
other_not_next p q xs x y l other at apart =
    false_from_ne_true (is_ready_at q (turns_of x.coll (without_context p xs))) (λ next. contradiction (next_there p q xs x l next))
  where
    contradiction : IsReady q x.coll (without_context p xs) → ⊥
    contradiction r =
        let same : r.context ≡ y = same_Some r.context y (sym r.at ∙ at_left p q xs other ∙ at) in
        false≢true (sym apart ∙ ap (λ (z : List ℕ). is_same z x.coll) (ap (λ (z : Context). z.coll) (sym same) ∙ sym r.coll) ∙ is_same_itself x.coll)

-- where a batch may take a context once one is taken: where it is the next of the collection, or where it could be taken before
pub heads_left : (p q : ℕ) (ps left : List ℕ) (xs : List Context) (x : Context) → Leaves p xs x → AreHeads ps xs → AreLeft p ps left
    → one_if (is_head q (without_context p xs)) ≡ one_if (is_ready_at q (turns_of x.coll (without_context p xs))) + count_of q left
heads_left p q ps left xs x l are rest = by_place (p == q) refl
  where
    Goal : Type 0
    Goal = one_if (is_head q (without_context p xs)) ≡ one_if (is_ready_at q (turns_of x.coll (without_context p xs))) + count_of q left

    of_others : (o : Option Context) → (p == q) ≡ false → count_of q left ≡ one_if (is_head q xs) → context_at q xs ≡ o → Goal
    of_others None other before at =
        let now : one_if (is_head q (without_context p xs)) ≡ 0 =
        ap (λ (o : Option Context). one_if (option_map_or (λ c. is_ready_at q (turns_of c (without_context p xs))) (option_map (λ (z : Context). z.coll) o) false))
        (at_left p q xs other ∙ at) in
        let was : one_if (is_head q xs) ≡ 0 =
        ap (λ (o : Option Context). one_if (option_map_or (λ c. is_ready_at q (turns_of c xs)) (option_map (λ (z : Context). z.coll) o) false)) at in
        let next : one_if (is_ready_at q (turns_of x.coll (without_context p xs))) ≡ 0 = ap one_if (none_next p q xs x l other at) in
        omega (arith, now, was, next, before)
    of_others (Some y) other before at = elim (cases_Bool (is_same y.coll x.coll)) [
      | inl same ↦
          let is : y.coll ≡ x.coll = same_name y.coll x.coll same in
          let now : one_if (is_head q (without_context p xs)) ≡ one_if (is_ready_at q (turns_of x.coll (without_context p xs))) =
          ap one_if (head_at q (without_context p xs) y (at_left p q xs other ∙ at))
          ∙ ap (λ (c : List ℕ). one_if (is_ready_at q (turns_of c (without_context p xs)))) is in
          let was : one_if (is_head q xs) ≡ 0 =
          ap one_if (head_at q xs y at ∙ ap (λ (c : List ℕ). is_ready_at q (turns_of c xs)) is ∙ first_not p q (turns_of x.coll xs) (is_first p xs x l) other) in
          omega (arith, now, was, before)
      | inr apart ↦
          let stays : turns_of y.coll (without_context p xs) ≡ turns_of y.coll xs =
          turns_left 0 y.coll p xs x l.up l.at l.done (is_first p xs x l)
          ∙ ap (λ (b : Bool). cond b (without_ready (turns_of y.coll xs)) (turns_of y.coll xs)) apart in
          let now : one_if (is_head q (without_context p xs)) ≡ one_if (is_head q xs) =
          ap one_if (head_at q (without_context p xs) y (at_left p q xs other ∙ at) ∙ ap (is_ready_at q) stays ∙ sym (head_at q xs y at)) in
          let next : one_if (is_ready_at q (turns_of x.coll (without_context p xs))) ≡ 0 = ap one_if (other_not_next p q xs x y l other at apart) in
          omega (arith, now, next, before)
    ]

    by_place : (b : Bool) → (p == q) ≡ b → Goal
    by_place true same =
        let is : p ≡ q = eqb-true p q same in
        let one : one_if (p == q) ≡ 1 = ap one_if same in
        let before : one_if (is_head q xs) ≡ 1 = ap (λ (n : ℕ). one_if (is_head n xs)) (sym is) ∙ ap one_if l.head in
        let now : one_if (is_head q (without_context p xs)) ≡ 0 =
        ap (λ (n : ℕ). one_if (is_head n (without_context p xs))) (sym is) ∙ ap one_if (own_is_gone p xs) in
        let next : one_if (is_ready_at q (turns_of x.coll (without_context p xs))) ≡ 0 =
        ap (λ (n : ℕ). one_if (is_ready_at n (turns_of x.coll (without_context p xs)))) (sym is) ∙ ap one_if (own_not_next p xs x l) in
        omega (arith, are q, rest q, one, before, now, next)
    by_place false other =
        let none : one_if (p == q) ≡ 0 = ap one_if other in
        let before : count_of q left ≡ one_if (is_head q xs) = omega (arith, are q, rest q, none) in
        of_others (context_at q xs) other before refl

-- the next of the collection comes among the places
pub with_next : (p n : ℕ) (ps left new : List ℕ) (xs : List Context) (x : Context) → Leaves p xs x → AreHeads ps xs → AreLeft p ps left
    → ready (turns_of x.coll (without_context p xs)) ≡ Some n → ((q : ℕ) → count_of q new ≡ count_of q (n ∷ left)) → AreHeads new (without_context p xs)
with_next p n ps left new xs x l are rest next grown = λ q.
    grown q
    ∙ sym (ap (λ (o : Option ℕ). one_if (option_map_or (λ k. k == q) o false) + count_of q left) next)
    ∙ sym (heads_left p q ps left xs x l are rest)

pub with_no_next : (p : ℕ) (ps left : List ℕ) (xs : List Context) (x : Context) → Leaves p xs x → AreHeads ps xs → AreLeft p ps left
    → ready (turns_of x.coll (without_context p xs)) ≡ None → AreHeads left (without_context p xs)
with_no_next p ps left xs x l are rest next = λ q. by_count q (heads_left p q ps left xs x l are rest)
  where
    by_count : (q : ℕ) → one_if (is_head q (without_context p xs)) ≡ one_if (is_ready_at q (turns_of x.coll (without_context p xs))) + count_of q left
        → count_of q left ≡ one_if (is_head q (without_context p xs))
    by_count q is =
        let none : one_if (is_ready_at q (turns_of x.coll (without_context p xs))) ≡ 0 = ap (λ (o : Option ℕ). one_if (option_map_or (λ k. k == q) o false)) next in
        omega (arith, is, none)
