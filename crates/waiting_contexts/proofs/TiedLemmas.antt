-- What ties the parts of the contexts stays through each call.
use Rattle.std.proofs.Common.{◌≡◌, ◌≢◌, ◌↔◌, inl, inr, ℕ, ◌+◌, ◌-◌, ◌<◌, ◌≤◌, ◌==◌, not, Bool, true, false, cond, List, [], ◌∷◌, ◌++◌, length, take, drop, Option, Some, None, is_some, refl, sym, ap, subst, ◌∙◌, append-nil, arith}
use Rattle.std.specs.Prelude.{IfSome}
use Rattle.std.specs.Option.{option_map, option_map_or}
use Rattle.std.proofs.lemmas.List.{drop_all, length-append, take-append-le, take_all}
use Rattle.std.proofs.lemmas.Option.{same_Some}
use mathlib.Core.Bool.{beq}
use Rattle.std.proofs.lemmas.Bool.{eq-eqb, ne_eqb, eqb-true, cases_Bool, false≢true, or_left, or_right}
use Rattle.object_model.specs.Prelude.{is_same}
use Rattle.object_model.proofs.Names.{same_name, is_same_itself}
use Rattle.op_sequencer.specs.declared.sequencer.Turn.{Turn}
use Rattle.op_sequencer.specs.Turns.{without_ready, done_at, has_turn}
use Rattle.op_sequencer.specs.Turns as op
use Rattle.store_steps.specs.declared.context.Context.{Context}
use Rattle.store_steps.specs.Prelude.{is_done, chosen, with_context, without_context, given_more, done_more, unsent, run_of}
use Rattle.txn_states.specs.States.{IsUnderWay}
use Rattle.waiting_contexts.specs.declared.sequencers.Sequencers.{Sequencers}
use Rattle.waiting_contexts.specs.Places.{IsAboveAll, IsLastPlace, context_at, is_done_at}
use Rattle.waiting_contexts.specs.Heads.{Heads, count_of, IsLeast}
use Rattle.waiting_contexts.specs.Queues.{turns_in, ChangesAt}
use Rattle.waiting_contexts.specs.Unsent.{PlacesAscend, unsent_places, has_unsent_at}
use Rattle.waiting_contexts.specs.Ties.{turn_of, turns_of, is_ready_at, is_head, AreHeads, HaveTurnsOf, IsTied}
use Rattle.waiting_contexts.proofs.UnsentLemmas.{changed_at, unsent_push, last_unsent}
use Rattle.waiting_contexts.proofs.ChosenLemmas.{none_chosen}
use Rattle.waiting_contexts.proofs.HeadCounts.{one_if, IsTaken, none_where_empty, least_is_chosen}
use Rattle.waiting_contexts.proofs.StepLemmas.{Keeps, Joins, join, no_join, turns_push, at_last, push_joins, same_turns, same_heads, same_colls, done_turns, done_joins, head_at}
use Rattle.waiting_contexts.proofs.TakeLemmas.{Leaves, turns_left, heads_left}

-- the names of two collections are the same, or they are two
by_name : (P : Type 0) (c d : List ℕ) → (is_same c d ≡ true → P) → (is_same c d ≡ false → c ≢ d → P) → P
by_name P c d here there = elim (cases_Bool (is_same c d)) [
  | inl same ↦ here same
  | inr apart ↦ there apart (λ e. false≢true (sym apart ∙ ap (λ (z : List ℕ). is_same z d) e ∙ is_same_itself d))
]

-- ---- a context behind all

above_by : (b : Bool) (place : ℕ) (x : Context) (ts : List Turn) → x.place < place → op.IsAboveTurns place ts → op.IsAboveTurns place (cond b (turn_of x ∷ ts) ts)
above_by true place x ts lt above = (lt, above)
above_by false place x ts lt above = above

pub above_turns : (place : ℕ) (c : List ℕ) (xs : List Context) → IsAboveAll place xs → op.IsAboveTurns place (turns_of c xs)
above_turns place c [] above = tt
above_turns place c (x ∷ xs) above = above_by (is_same c x.coll) place x (turns_of c xs) above.0 (above_turns place c xs above.1)

pub entered : (xs : List Context) (x : Context) (s t : Sequencers) → HaveTurnsOf xs s
    → ChangesAt x.coll (turns_in s x.coll ++ turn_of x ∷ []) s t → HaveTurnsOf (xs ++ x ∷ []) t
entered xs x s t tied changes = λ c. by_name (turns_in t c ≡ turns_of c (xs ++ x ∷ [])) c x.coll
    (λ same.
    let is : c ≡ x.coll = same_name c x.coll same in
    ap (turns_in t) is
    ∙ changes.at
    ∙ ap (λ (ts : List Turn). ts ++ turn_of x ∷ []) (ap (turns_in s) (sym is) ∙ tied c)
    ∙ ap (λ (b : Bool). turns_of c xs ++ cond b (turn_of x ∷ []) []) (sym same)
    ∙ sym (turns_push c xs x))
    (λ apart ne.
    changes.others c ne
    ∙ tied c
    ∙ sym (append-nil (turns_of c xs))
    ∙ ap (λ (b : Bool). turns_of c xs ++ cond b (turn_of x ∷ []) []) (sym apart)
    ∙ sym (turns_push c xs x))

pub goes_last : (place : ℕ) (front : List Context) (x : Context) → x.place ≡ place → IsAboveAll place front → without_context place (front ++ x ∷ []) ≡ front
goes_last place [] x is above = ap (λ (b : Bool). cond (not b) (x ∷ []) []) (eq-eqb x.place place is)
goes_last place (y ∷ ys) x is above =
    ap (λ (b : Bool). cond (not b) (y ∷ without_context place (ys ++ x ∷ [])) (without_context place (ys ++ x ∷ []))) (ne_eqb y.place place (λ e. absurd (omega (arith, e, above.0))))
    ∙ ap (λ (l : List Context). y ∷ l) (goes_last place ys x is above.1)

length_push : (xs : List Context) (x : Context) → length (xs ++ x ∷ []) ≡ length xs + 1
length_push [] x = refl
length_push (y ∷ ys) x = omega (arith, length_push ys x)

-- with its place among the heads where it may be taken
abbrev pub settled : ℕ → List Context → List ℕ → List ℕ
settled place xs ps = cond (is_head place xs) (place ∷ ps) ps

settle_by : (p : ℕ) (ps new : List ℕ) (xs ys : List Context) (b : Bool) → AreHeads ps xs → Joins p xs ys → is_head p ys ≡ b
    → ((q : ℕ) → count_of q new ≡ count_of q (cond b (p ∷ ps) ps)) → AreHeads new ys
settle_by p ps new xs ys true are joins now grown = join p ps new xs ys are joins now grown
settle_by p ps new xs ys false are joins now grown = λ q. grown q ∙ no_join p ps xs ys are joins now q

pub settled_heads : (p : ℕ) (ps new : List ℕ) (xs ys : List Context) → AreHeads ps xs → Joins p xs ys
    → ((q : ℕ) → count_of q new ≡ count_of q (settled p ys ps)) → AreHeads new ys
settled_heads p ps new xs ys are joins grown = settle_by p ps new xs ys (is_head p ys) are joins refl grown

pub pushed : (xs : List Context) (x : Context) (t : Sequencers) (h g : Heads) → IsAboveAll x.place xs → AreHeads h.places xs → HaveTurnsOf (xs ++ x ∷ []) t
    → ((q : ℕ) → count_of q g.places ≡ count_of q (settled x.place (xs ++ x ∷ []) h.places)) → length xs + 1 ≤ g.room → IsTied (xs ++ x ∷ []) t g
pushed xs x t h g above are tied grown room = record {
  turns = tied;
  heads = settled_heads x.place h.places g.places xs (xs ++ x ∷ []) are (push_joins xs x above) grown;
  room = omega (arith, room, length_push xs x);
}

-- ---- a context that changes

pub keeps_given : (count : ℕ) → Keeps (given_more count)
keeps_given count = record { place = λ x. refl; coll = λ x. refl }

pub keeps_done : (count : ℕ) → Keeps (done_more count)
keeps_done count = record { place = λ x. refl; coll = λ x. refl }

length_with : (p : ℕ) (f : Context → Context) (xs : List Context) → length (with_context p f xs) ≡ length xs
length_with p f [] = refl
length_with p f (x ∷ xs) = omega (arith, length_with p f xs)

pub same_tied : (p : ℕ) (f : Context → Context) (xs : List Context) (s : Sequencers) (h : Heads) → PlacesAscend 0 xs → Keeps f
    → ((x : Context) → context_at p xs ≡ Some x → is_done (f x) ≡ is_done x) → IsTied xs s h → IsTied (with_context p f xs) s h
same_tied p f xs s h up keeps same tied = record {
  turns = λ c. tied.turns c ∙ sym (same_turns 0 c p f xs up keeps same);
  heads = same_heads h.places p f xs up keeps same tied.heads;
  room = omega (arith, tied.room, length_with p f xs);
}

pub given_tied : (p count : ℕ) (xs : List Context) (s : Sequencers) (h : Heads) → PlacesAscend 0 xs → IsTied xs s h → IsTied (with_context p (given_more count) xs) s h
given_tied p count xs s h up tied = same_tied p (given_more count) xs s h up (keeps_given count) (λ x at. refl) tied

-- the turns where the context at a place becomes done
pub turns_done : (p : ℕ) (f : Context → Context) (xs : List Context) (x : Context) (s t : Sequencers) → PlacesAscend 0 xs → Keeps f → context_at p xs ≡ Some x
    → is_done (f x) ≡ true → HaveTurnsOf xs s → ChangesAt x.coll (done_at p (turns_in s x.coll)) s t → HaveTurnsOf (with_context p f xs) t
turns_done p f xs x s t up keeps at done tied changes = λ c. by_name (turns_in t c ≡ turns_of c (with_context p f xs)) c x.coll
    (λ same.
    let is : c ≡ x.coll = same_name c x.coll same in
    ap (turns_in t) is
    ∙ changes.at
    ∙ ap (done_at p) (ap (turns_in s) (sym is) ∙ tied c)
    ∙ ap (λ (b : Bool). cond b (done_at p (turns_of c xs)) (turns_of c xs)) (sym same)
    ∙ sym (done_turns 0 c p f xs x up keeps at done))
    (λ apart ne.
    changes.others c ne
    ∙ tied c
    ∙ ap (λ (b : Bool). cond b (done_at p (turns_of c xs)) (turns_of c xs)) (sym apart)
    ∙ sym (done_turns 0 c p f xs x up keeps at done))

pub done_tied : (p : ℕ) (f : Context → Context) (xs : List Context) (x : Context) (s t : Sequencers) (h g : Heads) → PlacesAscend 0 xs → Keeps f → context_at p xs ≡ Some x
    → is_done x ≡ false → is_done (f x) ≡ true → IsTied xs s h → HaveTurnsOf (with_context p f xs) t
    → ((q : ℕ) → count_of q g.places ≡ count_of q (settled p (with_context p f xs) h.places)) → h.room ≤ g.room → IsTied (with_context p f xs) t g
done_tied p f xs x s t h g up keeps at not_done done tied turns grown room = record {
  turns = turns;
  heads = settled_heads p h.places g.places xs (with_context p f xs) tied.heads (done_joins p f xs x up keeps at not_done done) grown;
  room = omega (arith, tied.room, room, length_with p f xs);
}

-- ---- the context that a batch takes

pub leaves : (p : ℕ) (xs : List Context) (ps : List ℕ) → PlacesAscend 0 xs → AreHeads ps xs → (k : IsTaken xs p) → Leaves p xs k.context
leaves p xs ps up are k = record {
  up = up;
  at = k.at;
  done = k.what.done;
  head = ap (λ (n : ℕ). is_head n xs) (sym k.of_place) ∙ k.what.head;
}

pub turns_taken : (p : ℕ) (xs : List Context) (x : Context) (s t : Sequencers) → Leaves p xs x → HaveTurnsOf xs s
    → ChangesAt x.coll (without_ready (turns_in s x.coll)) s t → HaveTurnsOf (without_context p xs) t
turns_taken p xs x s t l tied changes =
    let first : is_ready_at p (turns_of x.coll xs) ≡ true = sym (head_at p xs x l.at) ∙ l.head in
    λ c. by_name (turns_in t c ≡ turns_of c (without_context p xs)) c x.coll
    (λ same.
    let is : c ≡ x.coll = same_name c x.coll same in
    ap (turns_in t) is
    ∙ changes.at
    ∙ ap without_ready (ap (turns_in s) (sym is) ∙ tied c)
    ∙ ap (λ (b : Bool). cond b (without_ready (turns_of c xs)) (turns_of c xs)) (sym same)
    ∙ sym (turns_left 0 c p xs x l.up l.at l.done first))
    (λ apart ne.
    changes.others c ne
    ∙ tied c
    ∙ ap (λ (b : Bool). cond b (without_ready (turns_of c xs)) (turns_of c xs)) (sym apart)
    ∙ sym (turns_left 0 c p xs x l.up l.at l.done first))

fewer_by : (b : Bool) (x : Context) (xs ys : List Context) → length ys ≤ length xs → length (cond (not b) (x ∷ ys) ys) ≤ length (x ∷ xs)
fewer_by true x xs ys le = omega (arith, le)
fewer_by false x xs ys le = omega (arith, le)

pub fewer : (p : ℕ) (xs : List Context) → length (without_context p xs) ≤ length xs
fewer p [] = omega arith
fewer p (x ∷ xs) = fewer_by (x.place == p) x xs (without_context p xs) (fewer p xs)

-- ---- the calls

-- whether a batch can take one
pub tells_some : (xs : List Context) (ps : List ℕ) (b : Bool) → PlacesAscend 0 xs → AreHeads ps xs → ((b ≡ true) ↔ (ps ≡ [])) → not b ≡ is_some (chosen xs)
tells_some xs ps true up are empty = sym (ap is_some (none_where_empty xs ps up are (empty.0 refl)))
tells_some xs [] false up are empty = absurd (false≢true (empty.1 refl))
tells_some xs (p ∷ ps) false up are empty = by_choice (chosen xs) refl
  where
    by_choice : (o : Option Context) → chosen xs ≡ o → true ≡ is_some (chosen xs)
    by_choice None is =
        let none : one_if (is_head p xs) ≡ 0 = ap one_if (none_chosen xs p up is) in
        let own : one_if (p == p) ≡ 1 = ap one_if (eq-eqb p p refl) in
        absurd (omega (arith, are p, none, own))
    by_choice (Some x) is = sym (ap is_some is)

-- a context at a place has a turn in its collection
turn_by : (b : Bool) (p : ℕ) (y : Context) (ts : List Turn) → has_turn p ts ≡ true → has_turn p (cond b (turn_of y ∷ ts) ts) ≡ true
turn_by true p y ts there = or_right (y.place == p) (has_turn p ts) there
turn_by false p y ts there = there

pub turn_there : (p : ℕ) (xs : List Context) (x : Context) → context_at p xs ≡ Some x → has_turn p (turns_of x.coll xs) ≡ true
turn_there p [] x at = absurd (cc)
turn_there p (y ∷ ys) x at = elim (cases_Bool (y.place == p)) [
  | inl here ↦
      let same : y ≡ x = same_Some y x (sym (ap (λ (b : Bool). cond b (Some y) (context_at p ys)) here) ∙ at) in
      ap (λ (z : Context). has_turn p (turns_of z.coll (y ∷ ys))) (sym same)
      ∙ ap (λ (b : Bool). has_turn p (cond b (turn_of y ∷ turns_of y.coll ys) (turns_of y.coll ys))) (is_same_itself y.coll)
      ∙ or_left (y.place == p) (has_turn p (turns_of y.coll ys)) here
  | inr other ↦
      turn_by (is_same x.coll y.coll) p y (turns_of x.coll ys)
      (turn_there p ys x (sym (ap (λ (b : Bool). cond b (Some y) (context_at p ys)) other) ∙ at))
]

-- what was done stays done, since no more units end than there are
stays_done : (count : ℕ) (x : Context) → IsUnderWay x → x.done + count ≤ x.given → is_done x ≡ true → is_done (done_more count x) ≡ true
stays_done count x way le done = eq-eqb (x.done + count) (length x.fresh) (omega (arith, way.given, le, eqb-true x.done (length x.fresh) done))

beq_same : (a b : Bool) → beq a b ≡ true → a ≡ b
beq_same true true h = refl
beq_same true false h = absurd (false≢true h)
beq_same false true h = absurd (false≢true h)
beq_same false false h = refl

beq_apart : (a b : Bool) → beq a b ≡ false → a ≡ b → ⊥
beq_apart true true h e = false≢true (sym h)
beq_apart true false h e = false≢true (sym e)
beq_apart false true h e = false≢true e
beq_apart false false h e = false≢true (sym h)

abbrev test_of : Option Context → Bool
test_of o = option_map_or (λ (x : Context). is_done x) o false

done_after : (p count : ℕ) (xs : List Context) (x : Context) → context_at p xs ≡ Some x → context_at p (with_context p (done_more count) xs) ≡ Some (done_more count x)
done_after p count xs x at = changed_at p xs x (done_more count) (λ z. refl) at

-- where the test is the same before and after, the turns are
pub same_test : (p count : ℕ) (xs ys : List Context) (a b : Bool) → ys ≡ with_context p (done_more count) xs → a ≡ is_done_at p xs → b ≡ is_done_at p ys → beq b a ≡ true
    → (x : Context) → context_at p xs ≡ Some x → is_done (done_more count x) ≡ is_done x
same_test p count xs ys a b changed was is same x at =
    sym (ap test_of (ap (context_at p) changed ∙ done_after p count xs x at)) ∙ sym is ∙ beq_same b a same ∙ was ∙ ap test_of at

-- the context that becomes done
pub record Ends (p count : ℕ) (xs : List Context) : Type 0 where
  pub context : Context
  pub at : context_at p xs ≡ Some context
  pub was : is_done context ≡ false
  pub now : is_done (done_more count context) ≡ true

none_after : (p count : ℕ) (xs : List Context) → context_at p xs ≡ None → context_at p (with_context p (done_more count) xs) ≡ None
none_after p count xs none = by_option (context_at p (with_context p (done_more count) xs)) refl
  where
    by_option : (o : Option Context) → context_at p (with_context p (done_more count) xs) ≡ o → o ≡ None
    by_option None is = refl
    by_option (Some y) is =
        let colls : Some y.coll ≡ None =
        sym (ap (option_map (λ (z : Context). z.coll)) is) ∙ same_colls p p (done_more count) xs (keeps_done count) ∙ ap (option_map (λ (z : Context). z.coll)) none in
        absurd (cc)

pub ends : (p count : ℕ) (xs ys : List Context) (a b : Bool) → ys ≡ with_context p (done_more count) xs → a ≡ is_done_at p xs → b ≡ is_done_at p ys → beq b a ≡ false
    → IfSome (context_at p xs) IsUnderWay → IfSome (context_at p xs) (λ x. x.done + count ≤ x.given) → Ends p count xs
ends p count xs ys a b changed was is test way le = by_option (context_at p xs) refl
  where
    differs : b ≡ a → ⊥
    differs = beq_apart b a test

    by_tests : (x : Context) (s t : Bool) → context_at p xs ≡ Some x → is_done x ≡ s → is_done (done_more count x) ≡ t → Ends p count xs
    by_tests x true t at before after =
        let w : IsUnderWay x = subst (λ (o : Option Context). IfSome o IsUnderWay) at way in
        let l : x.done + count ≤ x.given = subst (λ (o : Option Context). IfSome o (λ z. z.done + count ≤ z.given)) at le in
        let now : b ≡ true = is ∙ ap test_of (ap (context_at p) changed ∙ done_after p count xs x at) ∙ stays_done count x w l before in
        absurd (differs (now ∙ sym before ∙ sym (ap test_of at) ∙ sym was))
    by_tests x false true at before after = record { context = x; at = at; was = before; now = after }
    by_tests x false false at before after =
        let now : b ≡ false = is ∙ ap test_of (ap (context_at p) changed ∙ done_after p count xs x at) ∙ after in
        absurd (differs (now ∙ sym before ∙ sym (ap test_of at) ∙ sym was))

    by_option : (o : Option Context) → context_at p xs ≡ o → Ends p count xs
    by_option None none =
        let now : b ≡ false = is ∙ ap test_of (ap (context_at p) changed ∙ none_after p count xs none) in
        absurd (differs (now ∙ sym (ap test_of none) ∙ sym was))
    by_option (Some x) at = by_tests x (is_done x) (is_done (done_more count x)) at refl refl

-- all writes of a context that is done were submitted
pub all_sent : (x : Context) → IsUnderWay x → is_done x ≡ true → unsent x ≡ None
all_sent x way done =
    let n : x.given ≡ length x.fresh = omega (arith, way.done, way.given, eqb-true x.done (length x.fresh) done) in
    ap (λ (k : ℕ). run_of x.place (drop k x.fresh)) n ∙ ap (run_of x.place) (drop_all (length x.fresh) x.fresh (omega arith))

pub taken_is_done : (p : ℕ) (xs : List Context) (ps : List ℕ) → PlacesAscend 0 xs → AreHeads ps xs → IsLeast p ps
    → IfSome (context_at p xs) (λ x. is_done x ≡ true)
taken_is_done p xs ps up are is_least =
    let k : IsTaken xs p = least_is_chosen xs ps p up are is_least in
    subst (λ (o : Option Context). IfSome o (λ x. is_done x ≡ true)) (sym k.at) k.what.done

pub taken_tied : (p : ℕ) (xs ys : List Context) (x : Context) (c : List ℕ) (s t : Sequencers) (h l g : Heads) → PlacesAscend 0 xs → IsTied xs s h → IsLeast p h.places
    → Some x ≡ context_at p xs → c ≡ x.coll → ys ≡ without_context p xs → ChangesAt c (without_ready (turns_in s c)) s t
    → ((q : ℕ) → count_of q h.places ≡ count_of q (p ∷ l.places)) → l.room ≡ h.room
    → ((q : ℕ) → count_of q g.places ≡ one_if (is_ready_at q (turns_in t c)) + count_of q l.places) → l.room ≤ g.room → IsTied ys t g
taken_tied p xs ys x c s t h l g up tied is_least found is left changes rest room grown more =
    let k : IsTaken xs p = least_is_chosen xs h.places p up tied.heads is_least in
    let same : k.context ≡ x = same_Some k.context x (sym k.at ∙ sym found) in
    let leave : Leaves p xs x = subst (λ (z : Context). Leaves p xs z) same (leaves p xs h.places up tied.heads k) in
    let change : ChangesAt x.coll (without_ready (turns_in s x.coll)) s t = subst (λ (n : List ℕ). ChangesAt n (without_ready (turns_in s n)) s t) is changes in
    let turns : HaveTurnsOf (without_context p xs) t = turns_taken p xs x s t leave tied.turns change in
    subst (λ (zs : List Context). IsTied zs t g) (sym left) (record {
      turns = turns;
      heads = λ q. grown q
          ∙ ap (λ (n : List ℕ). one_if (is_ready_at q (turns_in t n)) + count_of q l.places) is
          ∙ ap (λ (ts : List Turn). one_if (is_ready_at q ts) + count_of q l.places) (turns x.coll)
          ∙ sym (heads_left p q h.places l.places xs x leave tied.heads rest);
      room = omega (arith, fewer p xs, tied.room, room, more);
    })

pub coll_after : (p count : ℕ) (xs ys : List Context) (y : Context) → (e : Ends p count xs) → ys ≡ with_context p (done_more count) xs → Some y ≡ context_at p ys → y.coll ≡ e.context.coll
coll_after p count xs ys y e changed found =
    ap (λ (z : Context). z.coll) (same_Some y (done_more count e.context) (found ∙ ap (context_at p) changed ∙ done_after p count xs e.context e.at))

pub is_taken : (p : ℕ) (xs : List Context) (ps : List ℕ) (x : Context) → PlacesAscend 0 xs → AreHeads ps xs → IsLeast p ps → Some x ≡ context_at p xs
    → (chosen xs ≡ Some x) × ((is_done x ≡ true) × (x.place ≡ p))
is_taken p xs ps x up are is_least found =
    let k : IsTaken xs p = least_is_chosen xs ps p up are is_least in
    let same : k.context ≡ x = same_Some k.context x (sym k.at ∙ sym found) in
    (k.chosen_is ∙ ap (λ (z : Context). Some z) same, (sym (ap is_done same) ∙ k.what.done, sym (ap (λ (z : Context). z.place) same) ∙ k.of_place))

-- ---- the last context goes again

back_goes : (ps : List ℕ) (p : ℕ) → take (length (ps ++ p ∷ []) - 1) (ps ++ p ∷ []) ≡ ps
back_goes ps p =
    let n : length (ps ++ p ∷ []) - 1 ≡ length ps = omega (arith, length-append ps (p ∷ [])) in
    ap (λ (k : ℕ). take k (ps ++ p ∷ [])) n ∙ take-append-le (length ps) ps (p ∷ []) (omega arith) ∙ take_all (length ps) ps (omega arith)

back_by : (front : List ℕ) (p : ℕ) (b : Bool) → cond b (take (length (front ++ cond b (p ∷ []) []) - 1) (front ++ cond b (p ∷ []) [])) (front ++ cond b (p ∷ []) []) ≡ front
back_by front p true = back_goes front p
back_by front p false = append-nil front

pub last_goes : (place : ℕ) (xs : List Context) (l : IsLastPlace place xs) → without_context place xs ≡ l.front
last_goes place xs l = ap (without_context place) l.is ∙ goes_last place l.front l.last l.of_place l.above

pub at_the_last : (place : ℕ) (xs : List Context) (l : IsLastPlace place xs) → context_at place xs ≡ Some l.last
at_the_last place xs l =
    ap (λ (n : ℕ). context_at n xs) (sym l.of_place) ∙ ap (context_at l.last.place) l.is
    ∙ at_last l.front l.last (subst (λ (n : ℕ). IsAboveAll n l.front) (sym l.of_place) l.above)

pub queue_withdrawn : (place : ℕ) (xs ys : List Context) (ps qs : List ℕ) (b : Bool) → (l : IsLastPlace place xs) → ps ≡ unsent_places xs → b ≡ has_unsent_at place xs
    → ys ≡ without_context place xs → qs ≡ cond b (take (length ps - 1) ps) ps → qs ≡ unsent_places ys
queue_withdrawn place xs ys ps qs b l is test left now =
    let own : is_some (unsent l.last) ≡ b = sym (test ∙ ap (λ (o : Option Context). option_map_or (λ (x : Context). is_some (unsent x)) o false) (at_the_last place xs l)) in
    let was : ps ≡ unsent_places l.front ++ cond b (l.last.place ∷ []) [] =
    is ∙ ap unsent_places l.is ∙ unsent_push l.front l.last ∙ ap (λ (r : List ℕ). unsent_places l.front ++ r) (last_unsent l.last b own) in
    now
    ∙ ap (λ (r : List ℕ). cond b (take (length r - 1) r) r) was
    ∙ back_by (unsent_places l.front) l.last.place b
    ∙ sym (ap unsent_places (left ∙ last_goes place xs l))

-- ---- a context that enters

pub found_last : (xs ys : List Context) (x y : Context) (p : ℕ) → IsAboveAll x.place xs → p ≡ x.place → ys ≡ xs ++ x ∷ [] → Some y ≡ context_at p ys → y ≡ x
found_last xs ys x y p above is grown found =
    same_Some y x (found ∙ ap (λ (n : ℕ). context_at n ys) is ∙ ap (context_at x.place) grown ∙ at_last xs x above)

pub not_lost : (xs ys : List Context) (x : Context) (p : ℕ) → IsAboveAll x.place xs → p ≡ x.place → ys ≡ xs ++ x ∷ [] → None ≡ context_at p ys → ⊥
not_lost xs ys x p above is grown found =
    let none : ◌≡◌ {A = Option Context} None (Some x) = found ∙ ap (λ (n : ℕ). context_at n ys) is ∙ ap (context_at x.place) grown ∙ at_last xs x above in
    absurd (cc)

pub above_its_turns : (xs : List Context) (x : Context) (p : ℕ) (c : List ℕ) (s : Sequencers) → IsAboveAll x.place xs → p ≡ x.place → HaveTurnsOf xs s → op.IsAboveTurns p (turns_in s c)
above_its_turns xs x p c s above is tied =
    subst (λ (n : ℕ). op.IsAboveTurns n (turns_in s c)) (sym is) (subst (λ (ts : List Turn). op.IsAboveTurns x.place ts) (sym (tied c)) (above_turns x.place c xs above))

pub entered_as : (xs ys : List Context) (x : Context) (p : ℕ) (b : Bool) (c : List ℕ) (s t : Sequencers) → HaveTurnsOf xs s → ys ≡ xs ++ x ∷ [] → p ≡ x.place → b ≡ is_done x → c ≡ x.coll
    → ChangesAt c (turns_in s c ++ record { place = p; done = b } ∷ []) s t → HaveTurnsOf ys t
entered_as xs ys x p b c s t tied grown is done name changes =
    let by_place : ChangesAt c (turns_in s c ++ record { place = x.place; done = b } ∷ []) s t =
    subst (λ (n : ℕ). ChangesAt c (turns_in s c ++ record { place = n; done = b } ∷ []) s t) is changes in
    let by_done : ChangesAt c (turns_in s c ++ turn_of x ∷ []) s t =
    subst (λ (d : Bool). ChangesAt c (turns_in s c ++ record { place = x.place; done = d } ∷ []) s t) done by_place in
    let by_coll : ChangesAt x.coll (turns_in s x.coll ++ turn_of x ∷ []) s t = subst (λ (n : List ℕ). ChangesAt n (turns_in s n ++ turn_of x ∷ []) s t) name by_done in
    subst (λ (zs : List Context). HaveTurnsOf zs t) (sym grown) (entered xs x s t tied by_coll)

pub withdrawn : (xs ys zs : List Context) (x : Context) (p : ℕ) → IsAboveAll x.place xs → p ≡ x.place → ys ≡ xs ++ x ∷ [] → zs ≡ without_context p ys → zs ≡ xs
withdrawn xs ys zs x p above is grown left =
    left ∙ ap (λ (n : ℕ). without_context n ys) is ∙ ap (without_context x.place) grown ∙ goes_last x.place xs x refl above

pub none_found : (p count : ℕ) (xs ys : List Context) → (e : Ends p count xs) → ys ≡ with_context p (done_more count) xs → None ≡ context_at p ys → ⊥
none_found p count xs ys e changed found =
    let none : ◌≡◌ {A = Option Context} None (Some (done_more count e.context)) = found ∙ ap (context_at p) changed ∙ done_after p count xs e.context e.at in
    absurd (cc)

pub pushed_as : (xs ys : List Context) (x : Context) (p k : ℕ) (b : Bool) (t : Sequencers) (h m g : Heads) → IsAboveAll x.place xs → ys ≡ xs ++ x ∷ [] → p ≡ x.place
    → AreHeads h.places xs → m.places ≡ h.places → HaveTurnsOf ys t → b ≡ is_head x.place ys
    → ((q : ℕ) → count_of q g.places ≡ count_of q (cond b (p ∷ m.places) m.places)) → length xs ≤ k → k + 1 ≤ m.room → m.room ≤ g.room → IsTied ys t g
pushed_as xs ys x p k b t h m g above grown at are same tied told settles most room more =
    let turns : HaveTurnsOf (xs ++ x ∷ []) t = subst (λ (zs : List Context). HaveTurnsOf zs t) grown tied in
    let places : (q : ℕ) → count_of q g.places ≡ count_of q (settled x.place (xs ++ x ∷ []) h.places) =
    λ q. settles q
    ∙ ap (λ (d : Bool). count_of q (cond d (p ∷ m.places) m.places)) (told ∙ ap (is_head x.place) grown)
    ∙ ap (λ (i : ℕ). count_of q (cond (is_head x.place (xs ++ x ∷ [])) (i ∷ m.places) m.places)) at
    ∙ ap (λ (ps : List ℕ). count_of q (settled x.place (xs ++ x ∷ []) ps)) same in
    subst (λ (zs : List Context). IsTied zs t g) (sym grown) (pushed xs x t h g above are turns places (omega (arith, most, room, more)))

-- ---- what the calls of the parts tell

not_true : (b : Bool) → not b ≡ true → b ≡ false
not_true true h = absurd (false≢true h)
not_true false h = refl

not_false : (b : Bool) → not b ≡ false → b ≡ true
not_false true h = refl
not_false false h = absurd (false≢true (sym h))

-- the context at a place is the first of its collection, and done, as its sequencer tells
pub head_told : (p : ℕ) (ys : List Context) (y : Context) (c : List ℕ) (t : Sequencers) (b : Bool) → context_at p ys ≡ Some y → c ≡ y.coll → HaveTurnsOf ys t
    → b ≡ is_ready_at p (turns_in t c) → b ≡ is_head p ys
head_told p ys y c t b at name tied told =
    told ∙ ap (is_ready_at p) (tied c) ∙ ap (λ (n : List ℕ). is_ready_at p (turns_of n ys)) name ∙ sym (head_at p ys y at)

pub ends_told : (p count : ℕ) (xs ys : List Context) (b : Bool) → ys ≡ with_context p (done_more count) xs → b ≡ not (beq (is_done_at p ys) (is_done_at p xs)) → b ≡ true
    → IfSome (context_at p xs) IsUnderWay → IfSome (context_at p xs) (λ x. x.done + count ≤ x.given) → Ends p count xs
ends_told p count xs ys b changed told is way le =
    ends p count xs ys (is_done_at p xs) (is_done_at p ys) changed refl refl (not_true (beq (is_done_at p ys) (is_done_at p xs)) (sym told ∙ is)) way le

pub same_told : (p count : ℕ) (xs ys : List Context) (b : Bool) → ys ≡ with_context p (done_more count) xs → b ≡ not (beq (is_done_at p ys) (is_done_at p xs)) → b ≡ false
    → (x : Context) → context_at p xs ≡ Some x → is_done (done_more count x) ≡ is_done x
same_told p count xs ys b changed told is =
    same_test p count xs ys (is_done_at p xs) (is_done_at p ys) changed refl refl (not_false (beq (is_done_at p ys) (is_done_at p xs)) (sym told ∙ is))
