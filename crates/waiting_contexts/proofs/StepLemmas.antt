-- What becomes of turns, and of the contexts that a batch may take, where a context comes, changes or goes.
use Rattle.std.proofs.Common.{◌≡◌, inl, inr, ◌&&◌, ℕ, ◌+◌, ◌<◌, ◌≤◌, ◌==◌, Bool, true, false, cond, List, [], ◌∷◌, ◌++◌, Option, Some, None, refl, sym, ap, ◌∙◌, arith}
use Rattle.std.specs.Option.{option_map, option_map_or}
use Rattle.std.proofs.lemmas.Option.{same_Some}
use Rattle.std.proofs.lemmas.Bool.{eq-eqb, ne_eqb, eqb-true, cases_Bool, and_parts, false≢true, false_from_ne_true}
use Rattle.object_model.specs.Prelude.{is_same}
use Rattle.object_model.proofs.Names.{same_name}
use Rattle.op_sequencer.specs.declared.sequencer.Turn.{Turn}
use Rattle.op_sequencer.specs.Turns.{done_at, AscendFrom}
use Rattle.op_sequencer.proofs.TurnLemmas.{same_below}
use Rattle.store_steps.specs.declared.context.Context.{Context}
use Rattle.store_steps.specs.Prelude.{is_done, with_context}
use Rattle.waiting_contexts.specs.Unsent.{PlacesAscend}
use Rattle.waiting_contexts.specs.Places.{IsAboveAll, context_at}
use Rattle.waiting_contexts.specs.Heads.{count_of}
use Rattle.waiting_contexts.specs.Ties.{turn_of, turns_of, is_ready_at, coll_at, is_head, AreHeads}
use Rattle.waiting_contexts.proofs.Ascending.{none_below}
use Rattle.waiting_contexts.proofs.ChosenLemmas.{ready_by}
use Rattle.waiting_contexts.proofs.HeadCounts.{one_if}

-- ---- turns ascend as places do, and a turn is that of the context at its place

lower_least : (least lower : ℕ) (ts : List Turn) → AscendFrom least ts → lower ≤ least → AscendFrom lower ts
lower_least least lower [] up le = tt
lower_least least lower (t ∷ ts) up le = (omega (arith, le, up.0), up.1)

ascend_by : (b : Bool) (least : ℕ) (x : Context) (ts : List Turn) → least ≤ x.place → AscendFrom (x.place + 1) ts → AscendFrom least (cond b (turn_of x ∷ ts) ts)
ascend_by true least x ts le up = (le, up)
ascend_by false least x ts le up = lower_least (x.place + 1) least ts up (omega (arith, le))

pub turns_ascend : (least : ℕ) (c : List ℕ) (xs : List Context) → PlacesAscend least xs → AscendFrom least (turns_of c xs)
turns_ascend least c [] up = tt
turns_ascend least c (x ∷ xs) up = ascend_by (is_same c x.coll) least x (turns_of c xs) up.0 (turns_ascend (x.place + 1) c xs up.1)

context_from : (least q : ℕ) (xs : List Context) (x : Context) → PlacesAscend least xs → context_at q xs ≡ Some x → least ≤ q
context_from least q [] x up at = absurd (cc)
context_from least q (y ∷ ys) x up at = elim (cases_Bool (y.place == q)) [
  | inl here ↦ omega (arith, up.0, eqb-true y.place q here)
  | inr other ↦ omega (arith, up.0, context_from (y.place + 1) q ys x up.1 (sym (ap (λ (b : Bool). cond b (Some y) (context_at q ys)) other) ∙ at))
]

pub record IsReady (q : ℕ) (c : List ℕ) (xs : List Context) : Type 0 where
  pub context : Context
  pub at : context_at q xs ≡ Some context
  pub coll : c ≡ context.coll
  pub done : is_done context ≡ true

ready_step : (least q : ℕ) (c : List ℕ) (y : Context) (ys : List Context) (b : Bool) → PlacesAscend least (y ∷ ys) → is_same c y.coll ≡ b
    → (is_ready_at q (turns_of c ys) ≡ true → IsReady q c ys) → is_ready_at q (cond b (turn_of y ∷ turns_of c ys) (turns_of c ys)) ≡ true → IsReady q c (y ∷ ys)
ready_step least q c y ys true up same later h =
    let both = and_parts (is_done y) (y.place == q) (sym (ready_by (is_done y) y.place q) ∙ h) in
    record {
      context = y;
      at = ap (λ (b : Bool). cond b (Some y) (context_at q ys)) both.1;
      coll = same_name c y.coll same;
      done = both.0;
    }
ready_step least q c y ys false up same later h =
    let rest : IsReady q c ys = later h in
    let above : y.place + 1 ≤ q = context_from (y.place + 1) q ys rest.context up.1 rest.at in
    record {
      context = rest.context;
      at = ap (λ (b : Bool). cond b (Some y) (context_at q ys)) (ne_eqb y.place q (λ e. absurd (omega (arith, e, above)))) ∙ rest.at;
      coll = rest.coll;
      done = rest.done;
    }

pub ready_there : (least q : ℕ) (c : List ℕ) (xs : List Context) → PlacesAscend least xs → is_ready_at q (turns_of c xs) ≡ true → IsReady q c xs
ready_there least q c [] up h = absurd (false≢true h)
ready_there least q c (y ∷ ys) up h =
    ready_step least q c y ys (is_same c y.coll) up refl (λ later. ready_there (y.place + 1) q c ys up.1 later) h

-- ---- the context at a place may be taken now, where it couldn't be, and it is so of others as before

pub record Joins (p : ℕ) (xs ys : List Context) : Type 0 where
  pub was : is_head p xs ≡ false
  pub others : (q : ℕ) → (p == q) ≡ false → is_head q ys ≡ is_head q xs

pub join : (p : ℕ) (ps new : List ℕ) (xs ys : List Context) → AreHeads ps xs → Joins p xs ys → is_head p ys ≡ true → ((q : ℕ) → count_of q new ≡ count_of q (p ∷ ps))
    → AreHeads new ys
join p ps new xs ys are joins now grown = λ q. by_place q (p == q) refl
  where
    by_place : (q : ℕ) (b : Bool) → (p == q) ≡ b → count_of q new ≡ one_if (is_head q ys)
    by_place q true same =
        let one : one_if (p == q) ≡ 1 = ap one_if same in
        let is : p ≡ q = eqb-true p q same in
        let before : one_if (is_head p xs) ≡ 0 = ap one_if joins.was in
        let zero : count_of q ps ≡ 0 = ap (λ (n : ℕ). count_of n ps) (sym is) ∙ are p ∙ before in
        let sum : count_of q new ≡ 1 = omega (arith, grown q, one, zero) in
        sum ∙ sym (ap one_if now) ∙ ap (λ (n : ℕ). one_if (is_head n ys)) is
    by_place q false other =
        let none : one_if (p == q) ≡ 0 = ap one_if other in
        let sum : count_of q new ≡ count_of q ps = omega (arith, grown q, none) in
        sum ∙ are q ∙ ap one_if (sym (joins.others q other))

pub no_join : (p : ℕ) (ps : List ℕ) (xs ys : List Context) → AreHeads ps xs → Joins p xs ys → is_head p ys ≡ false → AreHeads ps ys
no_join p ps xs ys are joins now = λ q. by_place q (p == q) refl
  where
    by_place : (q : ℕ) (b : Bool) → (p == q) ≡ b → count_of q ps ≡ one_if (is_head q ys)
    by_place q true same =
        let is : p ≡ q = eqb-true p q same in
        ap (λ (n : ℕ). count_of n ps) (sym is) ∙ are p ∙ ap one_if joins.was ∙ sym (ap one_if now) ∙ ap (λ (n : ℕ). one_if (is_head n ys)) is
    by_place q false other = are q ∙ ap one_if (sym (joins.others q other))

head_same : (f g : List ℕ → Bool) (o : Option (List ℕ)) → ((c : List ℕ) → f c ≡ g c) → option_map_or f o false ≡ option_map_or g o false
head_same f g None same = refl
head_same f g (Some c) same = same c

pub same_head : (q : ℕ) (xs ys : List Context) → coll_at q ys ≡ coll_at q xs → ((c : List ℕ) → is_ready_at q (turns_of c ys) ≡ is_ready_at q (turns_of c xs))
    → is_head q ys ≡ is_head q xs
same_head q xs ys colls turns =
    ap (λ (o : Option (List ℕ)). option_map_or (λ c. is_ready_at q (turns_of c ys)) o false) colls
    ∙ head_same (λ c. is_ready_at q (turns_of c ys)) (λ c. is_ready_at q (turns_of c xs)) (coll_at q xs) turns

pub head_at : (p : ℕ) (xs : List Context) (x : Context) → context_at p xs ≡ Some x → is_head p xs ≡ is_ready_at p (turns_of x.coll xs)
head_at p xs x at = ap (λ (o : Option Context). option_map_or (λ c. is_ready_at p (turns_of c xs)) (option_map (λ (z : Context). z.coll) o) false) at

-- ---- a context behind all

push_by : (b : Bool) (t : Turn) (all front rest : List Turn) → all ≡ front ++ rest → cond b (t ∷ all) all ≡ cond b (t ∷ front) front ++ rest
push_by true t all front rest is = ap (λ (l : List Turn). t ∷ l) is
push_by false t all front rest is = is

pub turns_push : (c : List ℕ) (xs : List Context) (x : Context) → turns_of c (xs ++ x ∷ []) ≡ turns_of c xs ++ cond (is_same c x.coll) (turn_of x ∷ []) []
turns_push c [] x = refl
turns_push c (y ∷ ys) x = push_by (is_same c y.coll) (turn_of y) (turns_of c (ys ++ x ∷ [])) (turns_of c ys) (cond (is_same c x.coll) (turn_of x ∷ []) []) (turns_push c ys x)

at_push : (q : ℕ) (xs : List Context) (x : Context) → (x.place == q) ≡ false → context_at q (xs ++ x ∷ []) ≡ context_at q xs
at_push q [] x other = ap (λ (b : Bool). cond b (Some x) None) other
at_push q (y ∷ ys) x other = ap (λ (o : Option Context). cond (y.place == q) (Some y) o) (at_push q ys x other)

pub none_at_above : (place : ℕ) (xs : List Context) → IsAboveAll place xs → context_at place xs ≡ None
none_at_above place [] above = refl
none_at_above place (y ∷ ys) above =
    ap (λ (b : Bool). cond b (Some y) (context_at place ys)) (ne_eqb y.place place (λ e. absurd (omega (arith, e, above.0)))) ∙ none_at_above place ys above.1

pub at_last : (xs : List Context) (x : Context) → IsAboveAll x.place xs → context_at x.place (xs ++ x ∷ []) ≡ Some x
at_last [] x above = ap (λ (b : Bool). cond b (Some x) None) (eq-eqb x.place x.place refl)
at_last (y ∷ ys) x above =
    ap (λ (b : Bool). cond b (Some y) (context_at x.place (ys ++ x ∷ []))) (ne_eqb y.place x.place (λ e. absurd (omega (arith, e, above.0)))) ∙ at_last ys x above.1

last_by : (q : ℕ) (x : Context) (b : Bool) → (x.place == q) ≡ false → is_ready_at q (cond b (turn_of x ∷ []) []) ≡ false
last_by q x true other = ready_by (is_done x) x.place q ∙ ap (λ (b : Bool). is_done x && b) other ∙ none_of (is_done x)
  where
    none_of : (a : Bool) → (a && false) ≡ false
    none_of true = refl
    none_of false = refl
last_by q x false other = refl

ready_push : (q : ℕ) (ts : List Turn) (x : Context) (b : Bool) → (x.place == q) ≡ false → is_ready_at q (ts ++ cond b (turn_of x ∷ []) []) ≡ is_ready_at q ts
ready_push q [] x b other = last_by q x b other
ready_push q (t ∷ ts) x b other = refl

pub push_joins : (xs : List Context) (x : Context) → IsAboveAll x.place xs → Joins x.place xs (xs ++ x ∷ [])
push_joins xs x above = record {
  was = ap (λ (o : Option Context). option_map_or (λ c. is_ready_at x.place (turns_of c xs)) (option_map (λ (z : Context). z.coll) o) false) (none_at_above x.place xs above);
  others = λ q other. same_head q xs (xs ++ x ∷ []) (ap (option_map (λ (z : Context). z.coll)) (at_push q xs x other))
      (λ c. ap (is_ready_at q) (turns_push c xs x) ∙ ready_push q (turns_of c xs) x (is_same c x.coll) other);
}

-- ---- a context that changes, and keeps its place and its collection

pub record Keeps (f : Context → Context) : Type 0 where
  pub place : (x : Context) → (f x).place ≡ x.place
  pub coll : (x : Context) → (f x).coll ≡ x.coll

coll_step : (q : ℕ) (y z : Context) (o p : Option Context) → z.place ≡ y.place → z.coll ≡ y.coll → option_map (λ (x : Context). x.coll) p ≡ option_map (λ (x : Context). x.coll) o
    → option_map (λ (x : Context). x.coll) (cond (z.place == q) (Some z) p) ≡ option_map (λ (x : Context). x.coll) (cond (y.place == q) (Some y) o)
coll_step q y z o p place coll later = ap (λ (n : ℕ). option_map (λ (x : Context). x.coll) (cond (n == q) (Some z) p)) place ∙ by_test (y.place == q)
  where
    by_test : (b : Bool) → option_map (λ (x : Context). x.coll) (cond b (Some z) p) ≡ option_map (λ (x : Context). x.coll) (cond b (Some y) o)
    by_test true = ap (λ (c : List ℕ). Some c) coll
    by_test false = later

kept_place : (f : Context → Context) (b : Bool) (x : Context) → Keeps f → (cond b (f x) x).place ≡ x.place
kept_place f true x keeps = keeps.place x
kept_place f false x keeps = refl

kept_coll : (f : Context → Context) (b : Bool) (x : Context) → Keeps f → (cond b (f x) x).coll ≡ x.coll
kept_coll f true x keeps = keeps.coll x
kept_coll f false x keeps = refl

pub same_colls : (p q : ℕ) (f : Context → Context) (xs : List Context) → Keeps f → coll_at q (with_context p f xs) ≡ coll_at q xs
same_colls p q f [] keeps = refl
same_colls p q f (y ∷ ys) keeps =
    coll_step q y (cond (y.place == p) (f y) y) (context_at q ys) (context_at q (with_context p f ys)) (kept_place f (y.place == p) y keeps) (kept_coll f (y.place == p) y keeps)
    (same_colls p q f ys keeps)

same_turn : (f : Context → Context) (x : Context) → Keeps f → is_done (f x) ≡ is_done x → turn_of (f x) ≡ turn_of x
same_turn f x keeps done =
    ap (λ (n : ℕ). let t : Turn = record { place = n; done = is_done (f x) } in t) (keeps.place x)
    ∙ ap (λ (b : Bool). let t : Turn = record { place = x.place; done = b } in t) done

-- turns stay where what is done stays
pub same_turns : (least : ℕ) (c : List ℕ) (p : ℕ) (f : Context → Context) (xs : List Context) → PlacesAscend least xs → Keeps f
    → ((x : Context) → context_at p xs ≡ Some x → is_done (f x) ≡ is_done x) → turns_of c (with_context p f xs) ≡ turns_of c xs
same_turns least c p f [] up keeps same = refl
same_turns least c p f (y ∷ ys) up keeps same = elim (cases_Bool (y.place == p)) [
  | inl here ↦
      ap (λ (b : Bool). turns_of c (cond b (f y) y ∷ with_context p f ys)) here
      ∙ ap (λ (l : List Context). turns_of c (f y ∷ l)) (none_below (y.place + 1) p f ys up.1 (omega (arith, eqb-true y.place p here)))
      ∙ ap (λ (n : List ℕ). cond (is_same c n) (turn_of (f y) ∷ turns_of c ys) (turns_of c ys)) (keeps.coll y)
      ∙ ap (λ (t : Turn). cond (is_same c y.coll) (t ∷ turns_of c ys) (turns_of c ys))
      (same_turn f y keeps (same y (ap (λ (b : Bool). cond b (Some y) (context_at p ys)) here)))
  | inr other ↦
      ap (λ (b : Bool). turns_of c (cond b (f y) y ∷ with_context p f ys)) other
      ∙ ap (λ (l : List Turn). cond (is_same c y.coll) (turn_of y ∷ l) l)
      (same_turns (y.place + 1) c p f ys up.1 keeps (λ x at. same x (ap (λ (b : Bool). cond b (Some y) (context_at p ys)) other ∙ at)))
]

-- the turn of the one that changes becomes done
done_here : (s : Bool) (p : ℕ) (y : Context) (ts : List Turn) → (y.place == p) ≡ true → ts ≡ done_at p ts
    → cond s (record { place = y.place; done = true } ∷ ts) ts ≡ cond s (done_at p (cond s (turn_of y ∷ ts) ts)) (cond s (turn_of y ∷ ts) ts)
done_here true p y ts here same =
    ap (λ (l : List Turn). let t : Turn = record { place = y.place; done = true } in t ∷ l) same
    ∙ ap (λ (b : Bool). let t : Turn = record { place = y.place; done = true } in cond b t (turn_of y) ∷ done_at p ts) (sym here)
done_here false p y ts here same = refl

done_later : (s b : Bool) (p : ℕ) (y : Context) (ts : List Turn) → (y.place == p) ≡ false
    → cond b (turn_of y ∷ cond s (done_at p ts) ts) (cond s (done_at p ts) ts) ≡ cond s (done_at p (cond b (turn_of y ∷ ts) ts)) (cond b (turn_of y ∷ ts) ts)
done_later true true p y ts other = ap (λ (b : Bool). let t : Turn = record { place = y.place; done = true } in cond b t (turn_of y) ∷ done_at p ts) (sym other)
done_later true false p y ts other = refl
done_later false true p y ts other = refl
done_later false false p y ts other = refl

pub done_turns : (least : ℕ) (c : List ℕ) (p : ℕ) (f : Context → Context) (xs : List Context) (x : Context) → PlacesAscend least xs → Keeps f → context_at p xs ≡ Some x
    → is_done (f x) ≡ true → turns_of c (with_context p f xs) ≡ cond (is_same c x.coll) (done_at p (turns_of c xs)) (turns_of c xs)
done_turns least c p f [] x up keeps at done = absurd (cc)
done_turns least c p f (y ∷ ys) x up keeps at done = elim (cases_Bool (y.place == p)) [
  | inl here ↦
      let same : y ≡ x = same_Some y x (sym (ap (λ (b : Bool). cond b (Some y) (context_at p ys)) here) ∙ at) in
      let below : p < y.place + 1 = omega (arith, eqb-true y.place p here) in
      let now : is_done (f y) ≡ true = ap (λ (z : Context). is_done (f z)) same ∙ done in
      ap (λ (b : Bool). turns_of c (cond b (f y) y ∷ with_context p f ys)) here
      ∙ ap (λ (l : List Context). turns_of c (f y ∷ l)) (none_below (y.place + 1) p f ys up.1 below)
      ∙ ap (λ (n : List ℕ). cond (is_same c n) (turn_of (f y) ∷ turns_of c ys) (turns_of c ys)) (keeps.coll y)
      ∙ ap (λ (n : ℕ). let t : Turn = record { place = n; done = is_done (f y) } in cond (is_same c y.coll) (t ∷ turns_of c ys) (turns_of c ys)) (keeps.place y)
      ∙ ap (λ (b : Bool). let t : Turn = record { place = y.place; done = b } in cond (is_same c y.coll) (t ∷ turns_of c ys) (turns_of c ys)) now
      ∙ done_here (is_same c y.coll) p y (turns_of c ys) here (same_below (y.place + 1) p (turns_of c ys) (turns_ascend (y.place + 1) c ys up.1) below)
      ∙ ap (λ (z : Context). cond (is_same c z.coll) (done_at p (turns_of c (y ∷ ys))) (turns_of c (y ∷ ys))) same
  | inr other ↦
      ap (λ (b : Bool). turns_of c (cond b (f y) y ∷ with_context p f ys)) other
      ∙ ap (λ (l : List Turn). cond (is_same c y.coll) (turn_of y ∷ l) l)
      (done_turns (y.place + 1) c p f ys x up.1 keeps (sym (ap (λ (b : Bool). cond b (Some y) (context_at p ys)) other) ∙ at) done)
      ∙ done_later (is_same c x.coll) (is_same c y.coll) p y (turns_of c ys) other
]

ready_done_by : (p q : ℕ) (t : Turn) (b : Bool) → (p == q) ≡ false → (t.place == p) ≡ b
    → option_map_or (λ k. k == q) (cond (cond b (record t { done = true }) t).done (Some (cond b (record t { done = true }) t).place) None) false
    ≡ option_map_or (λ k. k == q) (cond t.done (Some t.place) None) false
ready_done_by p q t true other here =
    let none : (t.place == q) ≡ false = ap (λ (n : ℕ). n == q) (eqb-true t.place p here) ∙ other in
    none ∙ sym (none_of t.done) ∙ ap (λ (b : Bool). t.done && b) (sym none) ∙ sym (ready_by t.done t.place q)
  where
    none_of : (a : Bool) → (a && false) ≡ false
    none_of true = refl
    none_of false = refl
ready_done_by p q t false other here = refl

ready_done : (p q : ℕ) (ts : List Turn) → (p == q) ≡ false → is_ready_at q (done_at p ts) ≡ is_ready_at q ts
ready_done p q [] other = refl
ready_done p q (t ∷ ts) other = ready_done_by p q t (t.place == p) other refl

either : (s : Bool) (q : ℕ) (now ts : List Turn) → is_ready_at q now ≡ is_ready_at q ts → is_ready_at q (cond s now ts) ≡ is_ready_at q ts
either true q now ts same = same
either false q now ts same = refl

pub done_joins : (p : ℕ) (f : Context → Context) (xs : List Context) (x : Context) → PlacesAscend 0 xs → Keeps f → context_at p xs ≡ Some x → is_done x ≡ false
    → is_done (f x) ≡ true → Joins p xs (with_context p f xs)
done_joins p f xs x up keeps at not_done done = record {
  was = false_from_ne_true (is_head p xs) (λ h. contradiction (ready_there 0 p x.coll xs up (sym (head_at p xs x at) ∙ h)));
  others = λ q other. same_head q xs (with_context p f xs) (same_colls p q f xs keeps)
      (λ c. ap (is_ready_at q) (done_turns 0 c p f xs x up keeps at done)
      ∙ either (is_same c x.coll) q (done_at p (turns_of c xs)) (turns_of c xs) (ready_done p q (turns_of c xs) other));
}
  where
    contradiction : IsReady p x.coll xs → ⊥
    contradiction r = false≢true (sym not_done ∙ ap is_done (same_Some x r.context (sym at ∙ r.at)) ∙ r.done)

pub head_after : (p : ℕ) (f : Context → Context) (xs : List Context) (x : Context) → Keeps f → context_at p xs ≡ Some x
    → is_head p (with_context p f xs) ≡ is_ready_at p (turns_of x.coll (with_context p f xs))
head_after p f xs x keeps at =
    ap (λ (o : Option (List ℕ)). option_map_or (λ c. is_ready_at p (turns_of c (with_context p f xs))) o false)
    (same_colls p p f xs keeps ∙ ap (option_map (λ (z : Context). z.coll)) at)

pub same_heads : (ps : List ℕ) (p : ℕ) (f : Context → Context) (xs : List Context) → PlacesAscend 0 xs → Keeps f
    → ((x : Context) → context_at p xs ≡ Some x → is_done (f x) ≡ is_done x) → AreHeads ps xs → AreHeads ps (with_context p f xs)
same_heads ps p f xs up keeps same are = λ q.
    are q ∙ ap one_if (sym (same_head q xs (with_context p f xs) (same_colls p q f xs keeps) (λ c. ap (is_ready_at q) (same_turns 0 c p f xs up keeps same))))
