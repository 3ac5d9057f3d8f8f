-- The queue of contexts that have a data write left.
use Rattle.std.proofs.Common.{◌≡◌, inl, inr, ◌&&◌, ℕ, ◌+◌, ◌<◌, ◌≤◌, ◌==◌, nat_lt, not, Bool, true, false, cond, List, [], ◌∷◌, ◌++◌, length, get_or, drop, length-drop, Option, Some, None, is_some, refl, sym, ap, subst, ◌∙◌, arith}
use Rattle.std.specs.Option.{option_or, option_map_or}
use Rattle.std.specs.Prelude.{IfSome}
use Rattle.std.proofs.lemmas.Bool.{eq-eqb, ne_eqb, eqb-true, cases_Bool, lt-ltb, le-ltb, false≢true}
use Rattle.plan_rows.specs.declared.plan.FreshUnit.{FreshUnit}
use Rattle.store_steps.specs.declared.context.Context.{Context}
use Rattle.store_steps.specs.Prelude.{Unsent, unsent, unsent_units, run_from, run_of, next_unsent, with_context, without_context, given_more, done_more}
use Rattle.waiting_contexts.specs.Places.{context_at}
use Rattle.waiting_contexts.proofs.Ascending.{none_below, none_goes}
use Rattle.waiting_contexts.specs.Unsent.{unsent_places, has_unsent_at, PlacesAscend, IsOfNext}

push_by : (b : Bool) (p : ℕ) (all front rest : List ℕ) → all ≡ front ++ rest → cond b (p ∷ all) all ≡ cond b (p ∷ front) front ++ rest
push_by true p all front rest is = ap (λ (l : List ℕ). p ∷ l) is
push_by false p all front rest is = is

-- one behind all is the last of the queue, if it has a write left
pub unsent_push : (xs : List Context) (x : Context) → unsent_places (xs ++ x ∷ []) ≡ unsent_places xs ++ unsent_places (x ∷ [])
unsent_push [] x = refl
unsent_push (y ∷ ys) x = push_by (is_some (unsent y)) y.place (unsent_places (ys ++ x ∷ [])) (unsent_places ys) (unsent_places (x ∷ [])) (unsent_push ys x)

-- ---- where the queue is empty no write is left

none_by : (o n : Option Unsent) (p : ℕ) (ps : List ℕ) → (ps ≡ [] → n ≡ None) → cond (is_some o) (p ∷ ps) ps ≡ [] → option_or o n ≡ None
none_by None n p ps later h = later h
none_by (Some u) n p ps later h = absurd (cc)

pub no_next : (xs : List Context) → unsent_places xs ≡ [] → next_unsent xs ≡ None
no_next [] none = refl
no_next (x ∷ xs) none = none_by (unsent x) (next_unsent xs) x.place (unsent_places xs) (λ h. no_next xs h) none

-- ---- the first of the queue has the next write

pub record HasNext (least : ℕ) (xs : List Context) (p : ℕ) : Type 0 where
  pub context : Context
  pub at : context_at p xs ≡ Some context
  pub next : unsent context ≡ next_unsent xs
  pub some : is_some (next_unsent xs) ≡ true
  pub above : least ≤ p

next_by : (least : ℕ) (x : Context) (xs : List Context) (p : ℕ) (ps : List ℕ) (o : Option Unsent) → unsent x ≡ o → PlacesAscend least (x ∷ xs)
    → (unsent_places xs ≡ p ∷ ps → HasNext (x.place + 1) xs p) → cond (is_some o) (x.place ∷ unsent_places xs) (unsent_places xs) ≡ p ∷ ps → HasNext least (x ∷ xs) p
next_by least x xs p ps None is up later h =
    let rest : HasNext (x.place + 1) xs p = later h in
    let none_first : option_or (unsent x) (next_unsent xs) ≡ next_unsent xs = ap (λ (o : Option Unsent). option_or o (next_unsent xs)) is in
    record {
      context = rest.context;
      at = ap (λ (b : Bool). cond b (Some x) (context_at p xs)) (ne_eqb x.place p (λ e. absurd (omega (arith, e, rest.above)))) ∙ rest.at;
      next = rest.next ∙ sym none_first;
      some = ap is_some none_first ∙ rest.some;
      above = omega (arith, up.0, rest.above);
    }
next_by least x xs p ps (Some u) is up later h =
    let same : x.place ≡ p = cc in
    let first : option_or (unsent x) (next_unsent xs) ≡ Some u = ap (λ (o : Option Unsent). option_or o (next_unsent xs)) is in
    record {
      context = x;
      at = ap (λ (b : Bool). cond b (Some x) (context_at p xs)) (eq-eqb x.place p same);
      next = is ∙ sym first;
      some = ap is_some first;
      above = omega (arith, up.0, same);
    }

pub has_next : (least : ℕ) (xs : List Context) (p : ℕ) (ps : List ℕ) → PlacesAscend least xs → unsent_places xs ≡ p ∷ ps → HasNext least xs p
has_next least [] p ps up h = absurd (cc)
has_next least (x ∷ xs) p ps up h = next_by least x xs p ps (unsent x) refl up (λ later. has_next (x.place + 1) xs p ps up.1 later) h

-- ---- the queue tells whether a write is left

abbrev is_none_left : List ℕ → Bool
is_none_left [] = true
is_none_left (p ∷ ps) = false

left_by : (xs : List Context) (ps : List ℕ) → PlacesAscend 0 xs → unsent_places xs ≡ ps → not (is_none_left ps) ≡ is_some (next_unsent xs)
left_by xs [] up is = sym (ap is_some (no_next xs is))
left_by xs (p ∷ ps) up is = sym (has_next 0 xs p ps up is).some

by_length : (ps : List ℕ) → nat_lt 0 (length ps) ≡ not (is_none_left ps)
by_length [] = le-ltb 0 0 (omega arith)
by_length (p ∷ ps) = lt-ltb 0 (length (p ∷ ps)) (omega arith)

pub is_left : (xs : List Context) (ps : List ℕ) → PlacesAscend 0 xs → ps ≡ unsent_places xs → nat_lt 0 (length ps) ≡ is_some (next_unsent xs)
is_left xs ps up is = by_length ps ∙ left_by xs ps up (sym is)

pub front_has_next : (xs : List Context) (ps : List ℕ) (p : ℕ) → PlacesAscend 0 xs → ps ≡ unsent_places xs → true ≡ nat_lt 0 (length ps) → p ≡ get_or ps 0 p
    → HasNext 0 xs p
front_has_next xs [] p up is some first = absurd (false≢true (sym (some ∙ le-ltb 0 0 (omega arith))))
front_has_next xs (q ∷ qs) p up is some first = has_next 0 xs p qs up (sym is ∙ ap (λ (n : ℕ). n ∷ qs) (sym first))

-- ---- one more in the queue

pub last_unsent : (x : Context) (b : Bool) → is_some (unsent x) ≡ b → unsent_places (x ∷ []) ≡ cond b (x.place ∷ []) []
last_unsent x b is = ap (λ (c : Bool). cond c (x.place ∷ []) []) is

pub queue_push : (xs all : List Context) (x : Context) (ps qs : List ℕ) (b : Bool) → all ≡ xs ++ x ∷ [] → ps ≡ unsent_places xs → is_some (unsent x) ≡ b
    → qs ≡ ps ++ cond b (x.place ∷ []) [] → qs ≡ unsent_places all
queue_push xs all x ps qs b grown is left now =
    now
    ∙ ap (λ (l : List ℕ). l ++ cond b (x.place ∷ []) []) is
    ∙ ap (λ (l : List ℕ). unsent_places xs ++ l) (sym (last_unsent x b left))
    ∙ sym (unsent_push xs x)
    ∙ ap unsent_places (sym grown)

-- ---- units that have reached the device change nothing in the queue

changed_head : (b : Bool) (x y : Context) (ps : List ℕ) → unsent y ≡ unsent x → y.place ≡ x.place
    → cond (is_some (unsent (cond b y x))) ((cond b y x).place ∷ ps) ps ≡ cond (is_some (unsent x)) (x.place ∷ ps) ps
changed_head true x y ps same place =
    ap (λ (o : Option Unsent). cond (is_some o) (y.place ∷ ps) ps) same ∙ ap (λ (p : ℕ). cond (is_some (unsent x)) (p ∷ ps) ps) place
changed_head false x y ps same place = refl

pub same_queue : (place count : ℕ) (xs : List Context) → unsent_places (with_context place (done_more count) xs) ≡ unsent_places xs
same_queue place count [] = refl
same_queue place count (x ∷ xs) =
    changed_head (x.place == place) x (done_more count x) (unsent_places (with_context place (done_more count) xs)) refl refl
    ∙ ap (λ (ps : List ℕ). cond (is_some (unsent x)) (x.place ∷ ps) ps) (same_queue place count xs)

-- ---- the context of the next write, when some of it was submitted

sent_by : (least : ℕ) (x y : Context) (xs : List Context) (p : ℕ) (ps : List ℕ) (f : Context → Context) (o : Option Unsent) → unsent x ≡ o → PlacesAscend least (x ∷ xs)
    → ((z : Context) → z.place ≡ (f z).place)
    → (unsent_places xs ≡ p ∷ ps → context_at p xs ≡ Some y → unsent_places (with_context p f xs) ≡ cond (is_some (unsent (f y))) (p ∷ ps) ps)
    → cond (is_some o) (x.place ∷ unsent_places xs) (unsent_places xs) ≡ p ∷ ps → context_at p (x ∷ xs) ≡ Some y
    → unsent_places (with_context p f (x ∷ xs)) ≡ cond (is_some (unsent (f y))) (p ∷ ps) ps
sent_by least x y xs p ps f None is up place later h at =
    let rest : HasNext (x.place + 1) xs p = has_next (x.place + 1) xs p ps up.1 h in
    let apart : (x.place == p) ≡ false = ne_eqb x.place p (λ e. absurd (omega (arith, e, rest.above))) in
    ap (λ (b : Bool). unsent_places (cond b (f x) x ∷ with_context p f xs)) apart
    ∙ ap (λ (o : Option Unsent). cond (is_some o) (x.place ∷ unsent_places (with_context p f xs)) (unsent_places (with_context p f xs))) is
    ∙ later h (sym (ap (λ (b : Bool). cond b (Some x) (context_at p xs)) apart) ∙ at)
sent_by least x y xs p ps f (Some u) is up place later h at =
    let same : x.place ≡ p = cc in
    let rest : unsent_places xs ≡ ps = cc in
    let here : (x.place == p) ≡ true = eq-eqb x.place p same in
    let found : Some x ≡ Some y = sym (ap (λ (b : Bool). cond b (Some x) (context_at p xs)) here) ∙ at in
    let is_it : x ≡ y = cc in
    let below : p < x.place + 1 = omega (arith, same) in
    ap (λ (b : Bool). unsent_places (cond b (f x) x ∷ with_context p f xs)) here
    ∙ ap (λ (l : List Context). unsent_places (f x ∷ l)) (none_below (x.place + 1) p f xs up.1 below)
    ∙ ap (λ (l : List ℕ). cond (is_some (unsent (f x))) ((f x).place ∷ l) l) rest
    ∙ ap (λ (n : ℕ). cond (is_some (unsent (f x))) (n ∷ ps) ps) (sym (place x) ∙ same)
    ∙ ap (λ (z : Context). cond (is_some (unsent (f z))) (p ∷ ps) ps) is_it

-- its place stays at the front of the queue, if a write is left
pub sent : (least : ℕ) (xs : List Context) (y : Context) (p : ℕ) (ps : List ℕ) (f : Context → Context) → PlacesAscend least xs → ((z : Context) → z.place ≡ (f z).place)
    → unsent_places xs ≡ p ∷ ps → context_at p xs ≡ Some y → unsent_places (with_context p f xs) ≡ cond (is_some (unsent (f y))) (p ∷ ps) ps
sent least [] y p ps f up place h at = absurd (cc)
sent least (x ∷ xs) y p ps f up place h at =
    sent_by least x y xs p ps f (unsent x) refl up place (λ later there. sent (x.place + 1) xs y p ps f up.1 place later there) h at

-- ---- what is submitted is of the first of the queue

short_by : (b : Bool) (f : FreshUnit) (run fs : List FreshUnit) → length run ≤ length fs → length (cond b (f ∷ run) []) ≤ length (f ∷ fs)
short_by true f run fs le = omega (arith, le)
short_by false f run fs le = omega arith

run_is_short : (unit end : ℕ) (fs : List FreshUnit) → length (run_from unit end fs) ≤ length fs
run_is_short unit end [] = omega arith
run_is_short unit end (f ∷ fs) = short_by (f.unit == unit && nat_lt unit end) f (run_from (unit + 1) end fs) fs (run_is_short (unit + 1) end fs)

write_fits : (place count : ℕ) (fs : List FreshUnit) (u : Unsent) → run_of place fs ≡ Some u → count ≤ length (unsent_units u) → (u.place ≡ place) × ((count ≤ length fs) × (0 < length fs))
write_fits place count [] u is le = absurd (cc)
write_fits place count (f ∷ fs) u is le =
    let made : Unsent = record { place = place; first = f; more = run_from (f.unit + 1) (f.unit + 64) fs } in
    let same : made ≡ u = cc in
    let few : count ≤ length (unsent_units made) = subst (λ (w : Unsent). count ≤ length (unsent_units w)) (sym same) le in
    (ap (λ (w : Unsent). w.place) (sym same), (omega (arith, few, run_is_short (f.unit + 1) (f.unit + 64) fs), omega arith))

place_of_found : (p : ℕ) (xs : List Context) (x : Context) → context_at p xs ≡ Some x → x.place ≡ p
place_of_found p [] x at = absurd (cc)
place_of_found p (y ∷ ys) x at = elim (cases_Bool (y.place == p)) [
  | inl here ↦
      let found : Some y ≡ Some x = sym (ap (λ (b : Bool). cond b (Some y) (context_at p ys)) here) ∙ at in
      let same : y ≡ x = cc in
      ap (λ (z : Context). z.place) (sym same) ∙ eqb-true y.place p here
  | inr other ↦ place_of_found p ys x (sym (ap (λ (b : Bool). cond b (Some y) (context_at p ys)) other) ∙ at)
]

pub changed_at : (p : ℕ) (xs : List Context) (x : Context) (f : Context → Context) → ((z : Context) → z.place ≡ (f z).place) → context_at p xs ≡ Some x
    → context_at p (with_context p f xs) ≡ Some (f x)
changed_at p [] x f place at = absurd (cc)
changed_at p (y ∷ ys) x f place at = elim (cases_Bool (y.place == p)) [
  | inl here ↦
      let found : Some y ≡ Some x = sym (ap (λ (b : Bool). cond b (Some y) (context_at p ys)) here) ∙ at in
      let same : y ≡ x = cc in
      ap (λ (b : Bool). context_at p (cond b (f y) y ∷ with_context p f ys)) here
      ∙ ap (λ (b : Bool). cond b (Some (f y)) (context_at p (with_context p f ys))) (ap (λ (n : ℕ). n == p) (sym (place y)) ∙ here)
      ∙ ap (λ (z : Context). Some (f z)) same
  | inr other ↦
      ap (λ (b : Bool). context_at p (cond b (f y) y ∷ with_context p f ys)) other
      ∙ ap (λ (b : Bool). cond b (Some y) (context_at p (with_context p f ys))) other
      ∙ changed_at p ys x f place (sym (ap (λ (b : Bool). cond b (Some y) (context_at p ys)) other) ∙ at)
]

-- the context of a data write that is submitted, and its place at the front of the queue
pub record IsSent (xs : List Context) (place count : ℕ) : Type 0 where
  pub context : Context
  pub at : context_at place xs ≡ Some context
  pub rest : List ℕ
  pub queue : unsent_places xs ≡ place ∷ rest
  pub fits : context.given + count ≤ length context.fresh

sent_from : (xs : List Context) (place count : ℕ) (ps : List ℕ) → PlacesAscend 0 xs → IsOfNext place count (next_unsent xs) → unsent_places xs ≡ ps → IsSent xs place count
sent_from xs place count [] up of is =
    let none : ◌≡◌ {A = Option Unsent} (Some of.next) None = sym of.is_next ∙ no_next xs is in
    absurd (cc)
sent_from xs place count (p ∷ ps) up of is =
    let front : HasNext 0 xs p = has_next 0 xs p ps up is in
    let write = write_fits front.context.place count (drop front.context.given front.context.fresh) of.next (front.next ∙ of.is_next) of.within in
    let here : p ≡ place = sym (place_of_found p xs front.context front.at) ∙ sym write.0 ∙ of.of_place in
    record {
      context = front.context;
      at = subst (λ (n : ℕ). context_at n xs ≡ Some front.context) here front.at;
      rest = ps;
      queue = is ∙ ap (λ (n : ℕ). n ∷ ps) here;
      fits = omega (arith, write.1.0, write.1.1, length-drop front.context.given front.context.fresh);
    }

pub is_sent : (xs : List Context) (place count : ℕ) → PlacesAscend 0 xs → IsOfNext place count (next_unsent xs) → IsSent xs place count
is_sent xs place count up of = sent_from xs place count (unsent_places xs) up of refl

pub queue_sent : (xs all : List Context) (place count : ℕ) (ps qs : List ℕ) (b : Bool) → PlacesAscend 0 xs → IsOfNext place count (next_unsent xs) → ps ≡ unsent_places xs
    → all ≡ with_context place (given_more count) xs → has_unsent_at place all ≡ b → qs ≡ cond b ps (drop 1 ps) → qs ≡ unsent_places all
queue_sent xs all place count ps qs b up of is changed left now =
    let s : IsSent xs place count = is_sent xs place count up of in
    let there : context_at place all ≡ Some (given_more count s.context) =
    ap (context_at place) changed ∙ changed_at place xs s.context (given_more count) (λ z. refl) s.at in
    let test : b ≡ is_some (unsent (given_more count s.context)) =
    sym left ∙ ap (λ (o : Option Context). option_map_or (λ (x : Context). is_some (unsent x)) o false) there in
    now
    ∙ ap (λ (l : List ℕ). cond b l (drop 1 l)) (is ∙ s.queue)
    ∙ ap (λ (t : Bool). cond t (place ∷ s.rest) s.rest) test
    ∙ sym (sent 0 xs s.context place s.rest (given_more count) up (λ z. refl) s.queue s.at)
    ∙ sym (ap unsent_places changed)

-- ---- a context that goes, of which no write is left

pub same_without : (least place : ℕ) (xs : List Context) → PlacesAscend least xs → IfSome (context_at place xs) (λ x. unsent x ≡ None)
    → unsent_places (without_context place xs) ≡ unsent_places xs
same_without least place [] up none = refl
same_without least place (x ∷ xs) up none = elim (cases_Bool (x.place == place)) [
  | inl here ↦
      let its : unsent x ≡ None = subst (λ (b : Bool). IfSome (cond b (Some x) (context_at place xs)) (λ y. unsent y ≡ None)) here none in
      let below : place < x.place + 1 = omega (arith, eqb-true x.place place here) in
      ap (λ (b : Bool). unsent_places (cond (not b) (x ∷ without_context place xs) (without_context place xs))) here
      ∙ ap unsent_places (none_goes (x.place + 1) place xs up.1 below)
      ∙ sym (ap (λ (o : Option Unsent). cond (is_some o) (x.place ∷ unsent_places xs) (unsent_places xs)) its)
  | inr other ↦
      let later : IfSome (context_at place xs) (λ y. unsent y ≡ None) = subst (λ (b : Bool). IfSome (cond b (Some x) (context_at place xs)) (λ y. unsent y ≡ None)) other none in
      ap (λ (b : Bool). unsent_places (cond (not b) (x ∷ without_context place xs) (without_context place xs))) other
      ∙ ap (λ (l : List ℕ). cond (is_some (unsent x)) (x.place ∷ l) l) (same_without (x.place + 1) place xs up.1 later)
]
