-- What a batch would take is chosen one by one.
use Rattle.std.proofs.Common.{◌≡◌, inl, inr, ℕ, zero, suc, ◌+◌, ◌<◌, ◌≤◌, ◌==◌, Bool, true, false, cond, List, [], ◌∷◌, ◌++◌, length, Option, Some, None, is_some, refl, sym, ap, subst, ◌∙◌, append_assoc, append-nil, length-append, ◌^◌, arith}
use Rattle.std.specs.List.{flat_map, AllByRecursion}
use Rattle.std.specs.Prelude.{IfSome, MatchOption}
use Rattle.std.specs.Option.{option_map_or}
use Rattle.std.proofs.lemmas.Option.{same_Some}
use Rattle.std.proofs.lemmas.List.Concat.{flat_map-append}
use Rattle.meta_rows.specs.declared.row_op.RowOp.{RowOp}
use Rattle.meta_rows.specs.Prelude.{op_bytes, ops_bytes}
use Rattle.std.proofs.lemmas.Bool.{cases_Bool, eq-eqb, eqb-true, ne_eqb, and_parts, false≢true}
use Rattle.object_model.specs.Prelude.{is_same}
use Rattle.object_model.proofs.Names.{is_same_itself}
use Rattle.op_sequencer.specs.declared.sequencer.Turn.{Turn}
use Rattle.op_sequencer.specs.Turns.{AscendFrom, ready, behind, without_ready}
use Rattle.store_steps.specs.declared.context.Context.{Context}
use Rattle.store_steps.specs.Prelude.{chosen, without_context, choice, left_by}
use Rattle.waiting_contexts.specs.Unsent.{PlacesAscend}
use Rattle.waiting_contexts.specs.Places.{context_at}
use Rattle.waiting_contexts.specs.Heads.{Heads, count_of, IsLeast}
use Rattle.waiting_contexts.specs.declared.choosing.Choice.{Choice}
use Rattle.waiting_contexts.specs.declared.sequencers.Sequencers.{Sequencers}
use Rattle.waiting_contexts.specs.Ties.{turn_of, turns_of, is_ready_at, AreHeads, IsTied}
use Rattle.waiting_contexts.specs.Choices.{AreSamePlaces, TakesLeast, FindsNone, IsChoiceOf, AreBytesOf, PicksOne, PicksNone, ArePickedFrom}
use Rattle.waiting_contexts.proofs.ChosenLemmas.{IsChosen, chosen_is, ready_by}
use Rattle.waiting_contexts.proofs.HeadCounts.{IsTaken, none_where_empty, least_is_chosen}
use Rattle.waiting_contexts.proofs.StepLemmas.{head_at}
use Rattle.waiting_contexts.proofs.TakeLemmas.{turns_left, at_left, none_left, left_ascend, Leaves, with_next, with_no_next}
use Rattle.waiting_contexts.proofs.TiedLemmas.{leaves}

-- ---- one more of them

abbrev more : ℕ → List Context → Option Context → List Context
more most xs o = option_map_or (λ (x : Context). x ∷ choice most (without_context x.place xs)) o []

abbrev rest : ℕ → List Context → Option Context → List Context
rest most xs o = option_map_or (λ (x : Context). left_by most (without_context x.place xs)) o xs

pub none_some : {A : Type 0} (P : Type 0) (o : Option A) (x : A) → o ≡ None → o ≡ Some x → P
none_some P o x none some = absurd (let both : None ≡ Some x = sym none ∙ some in cc)

pub choice_push : (i : ℕ) (xs : List Context) (x : Context) → chosen (left_by i xs) ≡ Some x → choice (suc i) xs ≡ choice i xs ++ x ∷ []
choice_push zero xs x is = ap (more zero xs) is
choice_push (suc i) xs x is = by_next (λ ys e. choice_push i ys x e) (chosen xs) refl is
  where
    by_next : ((ys : List Context) → chosen (left_by i ys) ≡ Some x → choice (suc i) ys ≡ choice i ys ++ x ∷ []) → (o : Option Context) → chosen xs ≡ o
        → chosen (rest i xs o) ≡ Some x → more (suc i) xs o ≡ more i xs o ++ x ∷ []
    by_next again None e is = none_some (more (suc i) xs None ≡ more i xs None ++ x ∷ []) (chosen xs) x e is
    by_next again (Some y) e is = ap (λ (ys : List Context). y ∷ ys) (again (without_context y.place xs) is)

pub left_push : (i : ℕ) (xs : List Context) (x : Context) → chosen (left_by i xs) ≡ Some x → left_by (suc i) xs ≡ without_context x.place (left_by i xs)
left_push zero xs x is = ap (rest zero xs) is
left_push (suc i) xs x is = by_next (λ ys e. left_push i ys x e) (chosen xs) refl is
  where
    by_next : ((ys : List Context) → chosen (left_by i ys) ≡ Some x → left_by (suc i) ys ≡ without_context x.place (left_by i ys)) → (o : Option Context)
        → chosen xs ≡ o → chosen (rest i xs o) ≡ Some x → rest (suc i) xs o ≡ without_context x.place (rest i xs o)
    by_next again None e is = none_some (rest (suc i) xs None ≡ without_context x.place (rest i xs None)) (chosen xs) x e is
    by_next again (Some y) e is = again (without_context y.place xs) is

-- behind fewer than there are one comes next
pub some_next : (i most : ℕ) (xs : List Context) → i < length (choice most xs) → is_some (chosen (left_by i xs)) ≡ true
some_next i zero xs less = absurd (omega (arith, less))
some_next zero (suc most) xs less = by_next (chosen xs) refl less
  where
    by_next : (o : Option Context) → chosen xs ≡ o → zero < length (more most xs o) → is_some (chosen xs) ≡ true
    by_next None is less = absurd (omega (arith, less))
    by_next (Some x) is less = ap is_some is
some_next (suc i) (suc most) xs less = by_next (λ ys e. some_next i most ys e) (chosen xs) refl less
  where
    by_next : ((ys : List Context) → i < length (choice most ys) → is_some (chosen (left_by i ys)) ≡ true) → (o : Option Context) → chosen xs ≡ o
        → suc i < length (more most xs o) → is_some (chosen (rest i xs o)) ≡ true
    by_next again None is less = absurd (omega (arith, less))
    by_next again (Some x) is less = again (without_context x.place xs) (omega (arith, less))

-- where none comes next there are no more
pub choice_ends : (i most : ℕ) (xs : List Context) → chosen (left_by i xs) ≡ None → i ≤ most → choice most xs ≡ choice i xs
choice_ends zero zero xs none le = refl
choice_ends zero (suc most) xs none le = ap (more most xs) none
choice_ends (suc i) zero xs none le = absurd (omega (arith, le))
choice_ends (suc i) (suc most) xs none le = by_next (λ ys e. choice_ends i most ys e (omega (arith, le))) (chosen xs) refl none
  where
    by_next : ((ys : List Context) → chosen (left_by i ys) ≡ None → choice most ys ≡ choice i ys) → (o : Option Context) → chosen xs ≡ o
        → chosen (rest i xs o) ≡ None → more most xs o ≡ more i xs o
    by_next again None e none = refl
    by_next again (Some y) e none = ap (λ (ys : List Context). y ∷ ys) (again (without_context y.place xs) none)

-- so many as there are of them are all of them
pub all_chosen : (most : ℕ) (xs : List Context) → choice (length (choice most xs)) xs ≡ choice most xs
all_chosen zero xs = refl
all_chosen (suc most) xs = by_next (λ ys. all_chosen most ys) (chosen xs) refl
  where
    by_next : ((ys : List Context) → choice (length (choice most ys)) ys ≡ choice most ys) → (o : Option Context) → chosen xs ≡ o
        → choice (length (more most xs o)) xs ≡ more most xs o
    by_next again None is = refl
    by_next again (Some x) is = ap (more (length (choice most (without_context x.place xs))) xs) is
        ∙ ap (λ (ys : List Context). x ∷ ys) (again (without_context x.place xs))

pub all_left : (most : ℕ) (xs : List Context) → left_by (length (choice most xs)) xs ≡ left_by most xs
all_left zero xs = refl
all_left (suc most) xs = by_next (λ ys. all_left most ys) (chosen xs) refl
  where
    by_next : ((ys : List Context) → left_by (length (choice most ys)) ys ≡ left_by most ys) → (o : Option Context) → chosen xs ≡ o
        → left_by (length (more most xs o)) xs ≡ rest most xs o
    by_next again None is = refl
    by_next again (Some x) is = ap (rest (length (choice most (without_context x.place xs))) xs) is ∙ again (without_context x.place xs)

-- ---- those left are among all

pub ascend_left : (i : ℕ) (xs : List Context) → PlacesAscend 0 xs → PlacesAscend 0 (left_by i xs)
ascend_left zero xs up = up
ascend_left (suc i) xs up = by_next (λ ys u. ascend_left i ys u) (chosen xs)
  where
    by_next : ((ys : List Context) → PlacesAscend 0 ys → PlacesAscend 0 (left_by i ys)) → (o : Option Context) → PlacesAscend 0 (rest i xs o)
    by_next again None = up
    by_next again (Some y) = again (without_context y.place xs) (left_ascend 0 y.place xs up)

pub left_at : (i p : ℕ) (xs : List Context) (x : Context) → context_at p (left_by i xs) ≡ Some x → context_at p xs ≡ Some x
left_at zero p xs x at = at
left_at (suc i) p xs x at = by_next (λ ys e. left_at i p ys x e) (chosen xs) at
  where
    by_next : ((ys : List Context) → context_at p (left_by i ys) ≡ Some x → context_at p ys ≡ Some x) → (o : Option Context)
        → context_at p (rest i xs o) ≡ Some x → context_at p xs ≡ Some x
    by_next again None at = at
    by_next again (Some y) at = elim (cases_Bool (y.place == p)) [
      | inl same ↦
          let gone : context_at p (without_context y.place xs) ≡ None =
          subst (λ (n : ℕ). context_at p (without_context n xs) ≡ None) (sym (eqb-true y.place p same)) (none_left p xs) in
          none_some (context_at p xs ≡ Some x) (context_at p (without_context y.place xs)) x gone (again (without_context y.place xs) at)
      | inr other ↦ sym (at_left y.place p xs other) ∙ again (without_context y.place xs) at
    ]

-- ---- turns

-- the context that comes next
leaves_next : (xs : List Context) (x : Context) → PlacesAscend 0 xs → chosen xs ≡ Some x → Leaves x.place xs x
leaves_next xs x up is = let c : IsChosen xs x = chosen_is xs x up is in record { up = up; at = c.at; done = c.done; head = c.head }

first_of : (p : ℕ) (xs : List Context) (x : Context) → Leaves p xs x → is_ready_at p (turns_of x.coll xs) ≡ true
first_of p xs x l = sym (head_at p xs x l.at) ∙ l.head

-- some turns went from the front
pub record HasGone (all left : List Turn) : Type 0 where
  pub front : List Turn
  pub is : all ≡ front ++ left

gone_then : (a b c : List Turn) → HasGone a b → HasGone b c → HasGone a c
gone_then a b c one two = record {
  front = one.front ++ two.front;
  is = one.is ∙ ap (λ (ts : List Turn). one.front ++ ts) two.is ∙ sym (append_assoc one.front two.front c);
}

one_gone : (ts : List Turn) → HasGone ts (without_ready ts)
one_gone [] = record { front = []; is = refl }
one_gone (t ∷ ts) = of_test t.done
  where
    of_test : (b : Bool) → HasGone (t ∷ ts) (cond b ts (t ∷ ts))
    of_test true = record { front = t ∷ []; is = refl }
    of_test false = record { front = []; is = refl }

maybe_gone : (b : Bool) (ts : List Turn) → HasGone ts (cond b (without_ready ts) ts)
maybe_gone true ts = one_gone ts
maybe_gone false ts = record { front = []; is = refl }

pub turns_gone : (i : ℕ) (c : List ℕ) (xs : List Context) → PlacesAscend 0 xs → HasGone (turns_of c xs) (turns_of c (left_by i xs))
turns_gone zero c xs up = record { front = []; is = refl }
turns_gone (suc i) c xs up = by_next (λ ys u. turns_gone i c ys u) (chosen xs) refl
  where
    by_next : ((ys : List Context) → PlacesAscend 0 ys → HasGone (turns_of c ys) (turns_of c (left_by i ys))) → (o : Option Context) → chosen xs ≡ o
        → HasGone (turns_of c xs) (turns_of c (rest i xs o))
    by_next again None e = record { front = []; is = refl }
    by_next again (Some y) e =
        let l : Leaves y.place xs y = leaves_next xs y up e in
        gone_then (turns_of c xs) (turns_of c (without_context y.place xs)) (turns_of c (left_by i (without_context y.place xs)))
        (subst (HasGone (turns_of c xs)) (sym (turns_left 0 c y.place xs y up l.at l.done (first_of y.place xs y l)))
        (maybe_gone (is_same c y.coll) (turns_of c xs)))
        (again (without_context y.place xs) (left_ascend 0 y.place xs up))

-- turns ascend as contexts do
lower_turns : (least lower : ℕ) (ts : List Turn) → lower ≤ least → AscendFrom least ts → AscendFrom lower ts
lower_turns least lower [] le up = tt
lower_turns least lower (t ∷ ts) le up = (omega (arith, le, up.0), up.1)

turns_ascend : (least : ℕ) (c : List ℕ) (xs : List Context) → PlacesAscend least xs → AscendFrom least (turns_of c xs)
turns_ascend least c [] up = tt
turns_ascend least c (x ∷ xs) up = of_test (is_same c x.coll) (turns_ascend (x.place + 1) c xs up.1)
  where
    of_test : (b : Bool) → AscendFrom (x.place + 1) (turns_of c xs) → AscendFrom least (cond b (turn_of x ∷ turns_of c xs) (turns_of c xs))
    of_test true later = (up.0, later)
    of_test false later = lower_turns (x.place + 1) least (turns_of c xs) (omega (arith, up.0)) later

above_front : (least : ℕ) (front : List Turn) (t : Turn) (ts : List Turn) → AscendFrom least (front ++ t ∷ ts) → least ≤ t.place
above_front least [] t ts up = up.0
above_front least (f ∷ front) t ts up = omega (arith, up.0, above_front (f.place + 1) front t ts up.1)

behind_front : (least : ℕ) (front : List Turn) (t : Turn) (ts : List Turn) → AscendFrom least (front ++ t ∷ ts) → behind t.place (front ++ t ∷ ts) ≡ ts
behind_front least [] t ts up = ap (λ (b : Bool). cond b ts (behind t.place ts)) (eq-eqb t.place t.place refl)
behind_front least (f ∷ front) t ts up =
    ap (λ (b : Bool). cond b (front ++ t ∷ ts) (behind t.place (front ++ t ∷ ts)))
    (ne_eqb f.place t.place (λ e. absurd (omega (arith, e, above_front (f.place + 1) front t ts up.1))))
    ∙ behind_front (f.place + 1) front t ts up.1

-- the turns behind the first, where it is done
behind_first : (p least : ℕ) (front left : List Turn) → AscendFrom least (front ++ left) → is_ready_at p left ≡ true → behind p (front ++ left) ≡ without_ready left
behind_first p least front [] up first = absurd (false≢true first)
behind_first p least front (t ∷ ts) up first =
    let both = and_parts t.done (t.place == p) (sym (ready_by t.done t.place p) ∙ first) in
    ap (λ (n : ℕ). behind n (front ++ t ∷ ts)) (sym (eqb-true t.place p both.1)) ∙ behind_front least front t ts up
    ∙ sym (ap (λ (b : Bool). cond b ts (t ∷ ts)) both.0)

pub next_behind : (i p : ℕ) (xs : List Context) (x : Context) → PlacesAscend 0 xs → Leaves p (left_by i xs) x
    → behind p (turns_of x.coll xs) ≡ turns_of x.coll (without_context p (left_by i xs))
next_behind i p xs x up l =
    let ys : List Context = left_by i xs in
    let gone : HasGone (turns_of x.coll xs) (turns_of x.coll ys) = turns_gone i x.coll xs up in
    let first : is_ready_at p (turns_of x.coll ys) ≡ true = first_of p ys x l in
    ap (behind p) gone.is
    ∙ behind_first p 0 gone.front (turns_of x.coll ys) (subst (AscendFrom 0) gone.is (turns_ascend 0 x.coll xs up)) first
    ∙ sym (turns_left 0 x.coll p ys x l.up l.at l.done first ∙ ap (λ (b : Bool). cond b (without_ready (turns_of x.coll ys)) (turns_of x.coll ys)) (is_same_itself x.coll))

-- ---- counts

pub count_append : (q : ℕ) (ps qs : List ℕ) → count_of q (ps ++ qs) ≡ count_of q ps + count_of q qs
count_append q [] qs = omega arith
count_append q (p ∷ ps) qs = omega (arith, count_append q ps qs)

all_both : (P : ℕ → Type 0) (ps qs : List ℕ) → AllByRecursion P ps → AllByRecursion P qs → AllByRecursion P (ps ++ qs)
all_both P [] qs all more = more
all_both P (p ∷ ps) qs all more = (all.0, all_both P ps qs all.1 more)

pub lower_all : (a b : ℕ) (ps : List ℕ) → a ≤ b → AllByRecursion (λ q. b ≤ q) ps → AllByRecursion (λ q. a ≤ q) ps
lower_all a b [] le all = tt
lower_all a b (p ∷ ps) le all = (omega (arith, le, all.0), lower_all a b ps le all.1)

-- ---- the least of the places at hand and beside

pub pops_beside : (o : Option ℕ) (hand beside back beside' : Heads) → MatchOption o (beside.places ≡ []) (λ p. IsLeast p beside.places)
    → IfSome o (λ p. (q : ℕ) → count_of q beside.places ≡ count_of q (p ∷ beside'.places)) → IfSome o (λ p. length beside'.places + 1 ≡ length beside.places)
    → beside'.room ≡ beside.room → ((p : ℕ) → IsLeast p beside.places → AllByRecursion (λ q. p ≤ q) hand.places) → (beside.places ≡ [] → hand.places ≡ [])
    → MatchOption o (FindsNone hand beside back hand beside' back) (λ p. TakesLeast p hand beside back hand beside' back)
pops_beside None hand beside back beside' is rest fewer room above none =
    record { hand_none = none is; beside_none = is; same_hand = refl; same_back = refl }
pops_beside (Some p) hand beside back beside' least rest fewer room above none = record {
  least = record {
    among = let all = count_append p hand.places beside.places in let some = least.among in omega (arith, all, some);
    least = all_both (λ q. p ≤ q) hand.places beside.places (above p least) least.least;
  };
  rest = λ q. let before = count_append q hand.places beside.places in
      let now = count_append q hand.places beside'.places in
      let less = rest q in
      omega (arith, before, now, less);
  kept = λ q. refl;
  lengths = refl;
  more = omega arith;
  fewer = omega (arith, fewer);
  hand_room = omega arith;
  beside_room = omega (arith, room);
  back_room = omega arith;
}

pub pops_hand : (p : ℕ) (hand beside back hand' back' : Heads) → IsLeast p hand.places → ((q : ℕ) → count_of q hand.places ≡ count_of q (p ∷ hand'.places))
    → length hand'.places + 1 ≡ length hand.places → hand'.room ≡ hand.room → ((q : ℕ) → count_of q back'.places ≡ count_of q (p ∷ back.places))
    → length back'.places ≡ length back.places + 1 → back.room ≤ back'.room → AllByRecursion (λ q. p ≤ q) beside.places
    → TakesLeast p hand beside back hand' beside back'
pops_hand p hand beside back hand' back' least rest fewer room pushed grown back_room above = record {
  least = record {
    among = let all = count_append p hand.places beside.places in let some = least.among in omega (arith, all, some);
    least = all_both (λ q. p ≤ q) hand.places beside.places least.least above;
  };
  rest = λ q. let before = count_append q hand.places beside.places in
      let now = count_append q hand'.places beside.places in
      let less = rest q in
      omega (arith, before, now, less);
  kept = λ q. let before = count_append q back.places hand.places in
      let now = count_append q back'.places hand'.places in
      let less = rest q in
      let push = pushed q in
      omega (arith, before, now, less, push);
  lengths = omega (arith, fewer, grown);
  more = omega (arith, grown);
  fewer = omega arith;
  hand_room = omega (arith, room);
  beside_room = omega arith;
  back_room = back_room;
}

-- ---- one is picked

pub finds_none : (xs : List Context) (i : ℕ) (hand beside back hand' beside' back' : Heads) → PlacesAscend 0 xs
    → AreHeads (hand.places ++ beside.places) (left_by i xs) → FindsNone hand beside back hand' beside' back' → PicksNone xs i hand beside back hand' beside' back'
finds_none xs i hand beside back hand' beside' back' up are found = record {
  none = none_where_empty (left_by i xs) (hand.places ++ beside.places) (ascend_left i xs up) are
      (ap (λ (ps : List ℕ). ps ++ beside.places) found.hand_none ∙ found.beside_none);
  same_hand = found.same_hand;
  same_back = found.same_back;
}

module _ (xs : List Context) (i p : ℕ) (hand beside back hand' beside' back' : Heads) (up : PlacesAscend 0 xs)
    (are : AreHeads (hand.places ++ beside.places) (left_by i xs)) (takes : TakesLeast p hand beside back hand' beside' back') where
  pub taken : IsTaken (left_by i xs) p
  taken = least_is_chosen (left_by i xs) (hand.places ++ beside.places) p (ascend_left i xs up) are takes.least

  -- its context waits
  pub picked_at : context_at p xs ≡ Some taken.context
  picked_at = left_at i p xs taken.context taken.at

  module _ (x : Context) (at : context_at p xs ≡ Some x) where
    same : taken.context ≡ x
    same = same_Some taken.context x (sym picked_at ∙ at)

    chosen_next : chosen (left_by i xs) ≡ Some x
    chosen_next = taken.chosen_is ∙ ap (λ (z : Context). Some z) same

    leave : Leaves p (left_by i xs) x
    leave = subst (λ (z : Context). Leaves p (left_by i xs) z) same (leaves p (left_by i xs) (hand.places ++ beside.places) (ascend_left i xs up) are taken)

    left_then : without_context p (left_by i xs) ≡ left_by (i + 1) xs
    left_then = ap (λ (n : ℕ). without_context n (left_by i xs)) (sym (ap (λ (z : Context). z.place) (sym same) ∙ taken.of_place))
        ∙ sym (left_push i xs x chosen_next) ∙ ap (λ (n : ℕ). left_by n xs) next
      where
        next : suc i ≡ i + 1
        next = omega arith

    next_is : ready (behind p (turns_of x.coll xs)) ≡ ready (turns_of x.coll (without_context p (left_by i xs)))
    next_is = ap ready (next_behind i p xs x up leave)

    picks : (bytes : ℕ) (beside'' : Heads) → AreBytesOf x bytes → AreHeads (hand'.places ++ beside''.places) (without_context p (left_by i xs))
        → length beside''.places ≤ length beside'.places + 1 → beside'.room ≤ beside''.room → PicksOne xs i bytes hand beside back hand' beside'' back'
    picks bytes beside'' bytes_are heads more room = record {
      context = x;
      is_chosen = chosen_next;
      bytes_are = bytes_are;
      heads = subst (AreHeads (hand'.places ++ beside''.places)) left_then heads;
      kept = takes.kept;
      lengths = takes.lengths;
      more_back = takes.more;
      more_beside = omega (arith, more, takes.fewer);
      hand_room = takes.hand_room;
      beside_room = omega (arith, room, takes.beside_room);
      back_room = takes.back_room;
    }

    pub picks_with : (bytes n : ℕ) (beside'' : Heads) → AreBytesOf x bytes → ready (behind p (turns_of x.coll xs)) ≡ Some n
        → ((q : ℕ) → count_of q beside''.places ≡ count_of q (n ∷ beside'.places)) → length beside''.places ≡ length beside'.places + 1
        → beside'.room ≤ beside''.room → PicksOne xs i bytes hand beside back hand' beside'' back'
    picks_with bytes n beside'' bytes_are is grown longer room =
        picks bytes beside'' bytes_are
        (with_next p n (hand.places ++ beside.places) (hand'.places ++ beside'.places) (hand'.places ++ beside''.places) (left_by i xs) x leave are takes.rest
        (sym next_is ∙ is)
        (λ q. let before = count_append q hand'.places beside'.places in
        let now = count_append q hand'.places beside''.places in
        let push = grown q in
        omega (arith, before, now, push)))
        (omega (arith, longer)) room

    pub picks_without : (bytes : ℕ) → AreBytesOf x bytes → ready (behind p (turns_of x.coll xs)) ≡ None → PicksOne xs i bytes hand beside back hand' beside' back'
    picks_without bytes bytes_are is =
        picks bytes beside' bytes_are
        (with_no_next p (hand.places ++ beside.places) (hand'.places ++ beside'.places) (left_by i xs) x leave are takes.rest (sym next_is ∙ is))
        (omega arith) (omega arith)

-- ---- as many as come next

pub none_picked : (xs : List Context) (start beside back : Heads) → AreHeads start.places xs → beside.places ≡ [] → back.places ≡ []
    → ArePickedFrom xs 0 start start beside back
none_picked xs start beside back are none empty = record {
  count = refl;
  heads = λ q. let all = count_append q start.places beside.places in
      let no : count_of q beside.places ≡ 0 = ap (count_of q) none in
      let head = are q in
      omega (arith, all, no, head);
  kept = λ q. ap (λ (ps : List ℕ). count_of q (ps ++ start.places)) empty;
  lengths = ap (λ (ps : List ℕ). length ps + length start.places) empty ∙ zero_more (length start.places);
  few = let no : length beside.places ≡ 0 = ap (λ (ps : List ℕ). length ps) none in omega (arith, no);
  few_back = let no : length back.places ≡ 0 = ap (λ (ps : List ℕ). length ps) empty in omega (arith, no);
  room = omega arith;
}
  where
    zero_more : (n : ℕ) → 0 + n ≡ n
    zero_more n = omega arith

pub one_longer : (i : ℕ) (xs : List Context) (x : Context) → chosen (left_by i xs) ≡ Some x → choice (i + 1) xs ≡ choice i xs ++ x ∷ []
one_longer i xs x is = ap (λ (n : ℕ). choice n xs) next ∙ choice_push i xs x is
  where
    next : i + 1 ≡ suc i
    next = omega arith

pub one_fewer : (i : ℕ) (xs : List Context) (x : Context) (ys : List Context) → ys ≡ left_by i xs → chosen (left_by i xs) ≡ Some x
    → left_by (i + 1) xs ≡ without_context x.place ys
one_fewer i xs x ys are is = ap (λ (n : ℕ). left_by n xs) next ∙ left_push i xs x is ∙ ap (without_context x.place) (sym are)
  where
    next : i + 1 ≡ suc i
    next = omega arith

pub one_picked : (xs : List Context) (i bytes : ℕ) (start hand beside back hand' beside' back' : Heads) → ArePickedFrom xs i start hand beside back
    → PicksOne xs i bytes hand beside back hand' beside' back' → ArePickedFrom xs (i + 1) start hand' beside' back'
one_picked xs i bytes start hand beside back hand' beside' back' are one = record {
  count = let longer = ap (λ (zs : List Context). length zs) (one_longer i xs one.context one.is_chosen) ∙ length-append (choice i xs) (one.context ∷ []) in
      let was = are.count in
      omega (arith, longer, was);
  heads = one.heads;
  kept = λ q. one.kept q ∙ are.kept q;
  lengths = one.lengths ∙ are.lengths;
  few = let more = one.more_beside in let was = are.few in omega (arith, more, was);
  few_back = let more = one.more_back in let was = are.few_back in omega (arith, more, was);
  room = let more = one.hand_room in let was = are.room in omega (arith, more, was);
}

-- the bytes of one more
bytes_joined : (xs ys : List Context) → length (ops_bytes (flat_map (λ x. x.ops) (xs ++ ys)))
    ≡ length (ops_bytes (flat_map (λ x. x.ops) xs)) + length (ops_bytes (flat_map (λ x. x.ops) ys))
bytes_joined xs ys =
    ap (λ (ops : List RowOp). length (ops_bytes ops)) (flat_map-append (λ (x : Context). x.ops) xs ys)
    ∙ ap (λ (bytes : List ℕ). length bytes) (flat_map-append op_bytes (flat_map (λ x. x.ops) xs) (flat_map (λ x. x.ops) ys))
    ∙ length-append (ops_bytes (flat_map (λ x. x.ops) xs)) (ops_bytes (flat_map (λ x. x.ops) ys))

pub one_more_of : (xs : List Context) (i one : ℕ) (c d : Choice) (x : Context) → chosen (left_by i xs) ≡ Some x → IsChoiceOf (choice i xs) c → AreBytesOf x one
    → (c.bytes + one < 2 ^ 64 → d.bytes ≡ c.bytes + one) → d.count ≡ c.count + 1 → IsChoiceOf (choice (i + 1) xs) d
one_more_of xs i one c d x is of bytes_are adds counts = record {
  count = let longer = ap (λ (zs : List Context). length zs) (one_longer i xs x is) ∙ length-append (choice i xs) (x ∷ []) in
      let was = of.count in
      omega (arith, longer, was, counts);
  bytes = λ small.
      let whole = ap (λ (zs : List Context). length (ops_bytes (flat_map (λ z. z.ops) zs))) (one_longer i xs x is) ∙ bytes_joined (choice i xs) (x ∷ []) in
      let alone : length (ops_bytes (flat_map (λ z. z.ops) (x ∷ []))) ≡ length (ops_bytes x.ops) =
      ap (λ (ops : List RowOp). length (ops_bytes ops)) (append-nil x.ops) in
      summed (length (ops_bytes (flat_map (λ z. z.ops) (choice (i + 1) xs)))) (length (ops_bytes (flat_map (λ z. z.ops) (choice i xs))))
      (length (ops_bytes x.ops)) c.bytes one d.bytes (whole ∙ ap (λ (n : ℕ). length (ops_bytes (flat_map (λ z. z.ops) (choice i xs))) + n) alone) of.bytes bytes_are adds
      small;
}
  where
    summed : (all front own before one after : ℕ) → all ≡ front + own → (front < 2 ^ 64 → before ≡ front) → (own < 2 ^ 64 → one ≡ own)
        → (before + one < 2 ^ 64 → after ≡ before + one) → all < 2 ^ 64 → after ≡ all
    summed all front own before one after is first last adds small =
        let one_is : one ≡ own = last (omega (arith, is, small)) in
        let before_is : before ≡ front = first (omega (arith, is, small)) in
        let after_is : after ≡ before + one = adds (omega (arith, one_is, before_is, is, small)) in
        omega (arith, after_is, one_is, before_is, is)

-- one goes back
pub one_back : (p : ℕ) (start back hand back' hand' : List ℕ) → AreSamePlaces start (back ++ hand) → ((q : ℕ) → count_of q back ≡ count_of q (p ∷ back'))
    → ((q : ℕ) → count_of q hand' ≡ count_of q (p ∷ hand)) → AreSamePlaces start (back' ++ hand')
one_back p start back hand back' hand' same popped pushed q =
    let before = count_append q back hand in
    let now = count_append q back' hand' in
    let was = same q in
    let less = popped q in
    let grown = pushed q in
    omega (arith, before, now, was, less, grown)

-- what was picked at hand is there again
pub tied_again : (xs : List Context) (s : Sequencers) (start hand : Heads) → IsTied xs s start → AreSamePlaces start.places hand.places → start.room ≤ hand.room
    → IsTied xs s hand
tied_again xs s start hand tied same room = record {
  turns = tied.turns;
  heads = λ q. same q ∙ tied.heads q;
  room = let was = tied.room in omega (arith, was, room);
}
