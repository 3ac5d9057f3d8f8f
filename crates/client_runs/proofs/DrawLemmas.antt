-- What is drawn.
use Rattle.std.proofs.Common.{◌≡◌, ℕ, zero, suc, ◌+◌, ◌-◌, ◌<◌, ◌≤◌, ◌/◌, ◌%◌, ◌^◌, Bool, true, false, cond, List, [], ◌∷◌, ◌++◌, map, length}
use Rattle.std.proofs.Common.{take, Some, None, ap, ◌∙◌, sym, refl, subst, arith, length-append}
use Rattle.std.proofs.Math.Seq.{take-length}
use Rattle.std.proofs.lemmas.List.{length-map}
use Rattle.std.specs.Prelude.{filter, slice_get, slice_index_or, is_some, ◌&&◌, ◌||◌, not, ◌==◌, if◌then◌else◌}
use Rattle.store_steps.specs.declared.step.Step.{Step}
use Rattle.store_steps.specs.Prelude.{State, is_ready, all_steps, Call, stepping}
use Rattle.object_model.specs.declared.book.Book.{Book}
use Rattle.std.specs.List.{AllByRecursion}
use Rattle.std.specs.Vec.Iter.{into_iter_items}
use Rattle.std.specs.Prelude.{Option}
use Rattle.script_text.specs.Prelude.{is_wait}
use Rattle.script_text.specs.declared.line.Line.{Line}
use Rattle.script_text.specs.declared.line.What.{What}
use Rattle.script_text.specs.declared.line.What.TheVariants as what
use Rattle.client_runs.specs.declared.client.Client.{Client}
use Rattle.client_runs.specs.declared.drawing.Drawn.TheVariants as drawn
use Rattle.client_runs.specs.Prelude.{Ask, ready_list, unacked, may_ask, call_of, next_call, client_calls, possible_calls, IsDrawnOf, IsDrawnFrom, is_able, able_of, left_of, lefts, AreCounts, IsClient, asks_left, asks_from, asked, IsAtCommand}

-- ---- lists

-- what is found among those that pass does
passes_if : {A : Type 0} (p : A → Bool) (b : Bool) (y : A) (all : List A) (k : ℕ) (x : A) → p y ≡ b
    → ((j : ℕ) → slice_get all j ≡ Some x → p x ≡ true) → slice_get (cond b (y ∷ all) all) k ≡ Some x → p x ≡ true
passes_if p false y all k x is ih found = ih k found
passes_if p true y all zero x is ih found = let same : y ≡ x = cc in ap p (sym same) ∙ is
passes_if p true y all (suc k) x is ih found = ih k found

pub passes : {A : Type 0} (p : A → Bool) (xs : List A) (k : ℕ) (x : A) → slice_get (filter p xs) k ≡ Some x → p x ≡ true
passes p [] k x found = absurd cc
passes p (y ∷ ys) k x found = passes_if p (p y) y (filter p ys) k x refl (λ j at. passes p ys j x at) found

-- an item of a front
pub taken_at : {A : Type 0} (n i : ℕ) (xs : List A) (d : A) → i < n → n ≤ length xs → slice_get (take n xs) i ≡ Some (slice_index_or xs i d)
taken_at zero i xs d below few = absurd (omega (arith, below))
taken_at (suc n) i [] d below few = absurd (omega (arith, few))
taken_at (suc n) zero (x ∷ xs) d below few = refl
taken_at (suc n) (suc i) (x ∷ xs) d below few = taken_at n i xs d (omega (arith, below)) (omega (arith, few))

-- an item of a list
pub item_at : {A : Type 0} (i : ℕ) (xs : List A) (d : A) → i < length xs → slice_get xs i ≡ Some (slice_index_or xs i d)
item_at i [] d below = absurd (omega (arith, below))
item_at zero (x ∷ xs) d below = refl
item_at (suc i) (x ∷ xs) d below = item_at i xs d (omega (arith, below))

pub get_map : {A B : Type 0} (f : A → B) (xs : List A) (k : ℕ) (x : A) → slice_get xs k ≡ Some x → slice_get (map f xs) k ≡ Some (f x)
get_map f [] k x found = absurd cc
get_map f (y ∷ ys) zero x found = let same : y ≡ x = cc in ap (λ z. Some (f z)) same
get_map f (y ∷ ys) (suc k) x found = get_map f ys k x found

-- an item of the first of two lists, and of the second
pub get_left : {A : Type 0} (xs ys : List A) (k : ℕ) (x : A) → slice_get xs k ≡ Some x → slice_get (xs ++ ys) k ≡ Some x
get_left [] ys k x found = absurd cc
get_left (z ∷ xs) ys zero x found = found
get_left (z ∷ xs) ys (suc k) x found = get_left xs ys k x found

pub get_right : {A : Type 0} (xs ys : List A) (j k : ℕ) (x : A) → k ≡ length xs + j → slice_get ys j ≡ Some x → slice_get (xs ++ ys) k ≡ Some x
get_right [] ys j k x place found = subst (λ (n : ℕ). slice_get ys n ≡ Some x) {y = k} (omega (arith, place)) found
get_right (z ∷ xs) ys j zero x place found = absurd (omega (arith, place))
get_right (z ∷ xs) ys j (suc k) x place found = get_right xs ys j k x (omega (arith, place)) found

-- ---- the draw of the program

module _ (depth : ℕ) (s : State) where
  -- those of the table that are ready
  pub all_ready : (steps : List Step) (i : ℕ) → steps ≡ all_steps → i ≤ length steps → length steps ≤ i
      → filter (λ step. is_ready step depth s) (take i steps) ≡ ready_list depth s
  unfolding ready_list
  all_ready steps i are within end =
      let whole : take i steps ≡ steps = ap (λ (n : ℕ). take n steps) (omega (arith, within, end)) ∙ take-length steps in
      ap (λ (l : List Step). filter (λ step. is_ready step depth s) l) (whole ∙ are)

  pub ready_passes : (k : ℕ) (step : Step) → slice_get (ready_list depth s) k ≡ Some step → is_ready step depth s ≡ true
  unfolding ready_list
  ready_passes k step at = passes (λ step. is_ready step depth s) all_steps k step at

-- ---- the clients that can go on, and their calls

-- what comes of a client: it can go on and there is the call of its next command, or it can't and there is none
abbrev pub NextBy : ℕ → List Ask → Book → Bool → Type 0
NextBy number asks book true = (a : Ask) × ((rest : List Ask) × ((asks ≡ a ∷ rest) × (next_call number asks book ≡ call_of number a.line a.command ∷ [])))
NextBy number asks book false = next_call number asks book ≡ []

module _ (number : ℕ) (book : Book) where
  -- by whether its command can come now
  by_may : (a : Ask) (more : List Ask) (b : Bool) → may_ask number a book ≡ b → NextBy number (a ∷ more) book b
  by_may a more true e =
      (a, (more, (refl, ap (λ (t : Bool). if t then (call_of number a.line a.command ∷ []) else []) e)))
  by_may a more false e = ap (λ (t : Bool). if t then (call_of number a.line a.command ∷ []) else []) e

  next_by : (next : Option Line) (waits : Bool) (rest : List Line) (count : ℕ) → IsAtCommand next → count ≡ unacked number book
      → NextBy number (asks_left next waits rest) book (is_some next && (not waits || (count == 0)))
  next_by None waits rest count at counted = refl
  next_by (Some l) waits rest count at counted = by_what l.what at
    where
      by_what : (w : What) → is_wait w ≡ false
          → NextBy number (asked waits l.line w ++ asks_from (is_wait w) rest) book (not waits || (count == 0))
      by_what (what.Command c) is =
          by_may (record { line = l.line; waits = waits; command = c }) (asks_from false rest) (not waits || (count == 0))
          (ap (λ (n : ℕ). not waits || (n == 0)) (sym counted))
      by_what what.Wait is = absurd cc

  pub next_of : (c : Client) → IsClient c → c.unacked ≡ unacked number book → NextBy number (left_of c) book (is_able c)
  next_of c well counted = next_by c.next c.waits (into_iter_items c.rest) c.unacked well.at_command counted

module _ (book : Book) where
  -- there are as many that can go on as calls
  pub able_length : (number : ℕ) (cs : List Client) → AllByRecursion IsClient cs → AreCounts number cs book
      → length (able_of number cs) ≡ length (client_calls number (lefts cs) book)
  able_length number [] well counts = refl
  able_length number (c ∷ cs) well counts = by_able (is_able c) (next_of number book c well.0 counts.0) (able_length (number + 1) cs well.1 counts.1)
    where
      later : List Call
      later = client_calls (number + 1) (lefts cs) book

      by_able : (b : Bool) → NextBy number (left_of c) book b → length (able_of (number + 1) cs) ≡ length later
          → length (cond b (number ∷ able_of (number + 1) cs) (able_of (number + 1) cs)) ≡ length (next_call number (left_of c) book ++ later)
      by_able true next ih = ap suc ih ∙ ap (λ (l : List Call). length (l ++ later)) (sym next.1.1.1)
      by_able false none ih = ih ∙ ap (λ (l : List Call). length (l ++ later)) (sym none)

  -- the client that stands at a place among those that can go on, and its call
  pub record IsAbleAt (number : ℕ) (cs : List Client) (k client : ℕ) : Type 0 where
    pub i : ℕ
    pub is : client ≡ number + i
    pub c : Client
    pub there : slice_get cs i ≡ Some c
    pub able : is_able c ≡ true
    pub next : Ask
    pub rest : List Ask
    pub left : left_of c ≡ next ∷ rest
    pub call : slice_get (client_calls number (lefts cs) book) k ≡ Some (call_of client next.line next.command)

  pub able_at : (number : ℕ) (cs : List Client) (k client : ℕ) → AllByRecursion IsClient cs → AreCounts number cs book
      → slice_get (able_of number cs) k ≡ Some client → IsAbleAt number cs k client
  able_at number [] k client well counts at = absurd cc
  able_at number (c ∷ cs) k client well counts at =
      by_able (is_able c) refl (next_of number book c well.0 counts.0) (λ j found. able_at (number + 1) cs j client well.1 counts.1 found) k at
    where
      later : List Call
      later = client_calls (number + 1) (lefts cs) book

      -- one of the others
      other : (j m : ℕ) (calls : List Call) → next_call number (left_of c) book ≡ calls → m ≡ length calls + j
          → IsAbleAt (number + 1) cs j client → IsAbleAt number (c ∷ cs) m client
      other j m calls first place there =
          let call : slice_get (calls ++ later) m ≡ Some (call_of client there.next.line there.next.command) =
          get_right calls later j m (call_of client there.next.line there.next.command) place there.call in
          record {
            i = suc there.i;
            is = omega (arith, there.is);
            c = there.c;
            there = there.there;
            able = there.able;
            next = there.next;
            rest = there.rest;
            left = there.left;
            call = subst (λ (l : List Call). slice_get (l ++ later) m ≡ Some (call_of client there.next.line there.next.command)) (sym first) call;
          }

      by_able : (b : Bool) → is_able c ≡ b → NextBy number (left_of c) book b
          → ((j : ℕ) → slice_get (able_of (number + 1) cs) j ≡ Some client → IsAbleAt (number + 1) cs j client) → (m : ℕ)
          → slice_get (cond b (number ∷ able_of (number + 1) cs) (able_of (number + 1) cs)) m ≡ Some client → IsAbleAt number (c ∷ cs) m client
      by_able true e next ih zero found =
          let same : number ≡ client = cc in
          record {
            i = 0;
            is = omega (arith, same);
            c = c;
            there = refl;
            able = e;
            next = next.0;
            rest = next.1.0;
            left = next.1.1.0;
            call = subst (λ (l : List Call). slice_get (l ++ later) 0 ≡ Some (call_of client next.0.line next.0.command)) (sym next.1.1.1)
                (ap (λ (n : ℕ). Some (call_of n next.0.line next.0.command)) same);
          }
      by_able true e next ih (suc m) found = other m (suc m) (call_of number next.0.line next.0.command ∷ []) next.1.1.1 (omega arith) (ih m found)
      by_able false e none ih m found = other m m [] none (omega arith) (ih m found)

-- ---- what is drawn is drawn from the calls

module _ (cs : List Client) (book : Book) (ready : List Step) (x x' : ℕ) (well : AllByRecursion IsClient cs) (counts : AreCounts 0 cs book) where
  abbrev calls : List Call
  calls = client_calls 0 (lefts cs) book

  -- as many calls as items
  lengths : length (possible_calls (lefts cs) book ready) ≡ length (able_of 0 cs) + length ready
  lengths = length-append calls (map stepping ready)
      ∙ omega (arith, able_length book 0 cs well counts, length-map ready stepping)

  pub drawn_step : (step : Step) → IsDrawnFrom (able_of 0 cs) ready x (drawn.Step step) x'
      → IsDrawnOf x' (possible_calls (lefts cs) book ready) (stepping step)
  drawn_step step from =
      let n : ℕ = length (able_of 0 cs) + length ready in
      let k : ℕ = (x' / 2 ^ 33) % n in
      let j : ℕ = k - length (able_of 0 cs) in
      let found : slice_get (map stepping ready) j ≡ Some (stepping step) = get_map stepping ready j step from.is.1 in
      let place : k ≡ length calls + j = omega (arith, able_length book 0 cs well counts, from.is.0) in
      let at : slice_get (calls ++ map stepping ready) k ≡ Some (stepping step) = get_right calls (map stepping ready) j k (stepping step) place found in
      subst (λ (m : ℕ). slice_get (calls ++ map stepping ready) ((x' / 2 ^ 33) % m) ≡ Some (stepping step)) (sym lengths) at

  pub record DrawsCall (client : ℕ) : Type 0 where
    pub c : Client
    pub there : slice_get cs client ≡ Some c
    pub able : is_able c ≡ true
    pub next : Ask
    pub rest : List Ask
    pub left : left_of c ≡ next ∷ rest
    pub drawn_is : IsDrawnOf x' (possible_calls (lefts cs) book ready) (call_of client next.line next.command)

  pub drawn_client : (client : ℕ) → IsDrawnFrom (able_of 0 cs) ready x (drawn.Client client) x' → DrawsCall client
  drawn_client client from =
      let k : ℕ = (x' / 2 ^ 33) % (length (able_of 0 cs) + length ready) in
      let at = able_at book 0 cs k client well counts from.is in
      let call : Call = call_of client at.next.line at.next.command in
      let there : slice_get (calls ++ map stepping ready) k ≡ Some call = get_left calls (map stepping ready) k call at.call in
      let same : at.i ≡ client = omega (arith, at.is) in
      record {
        c = at.c;
        there = subst (λ (i : ℕ). slice_get cs i ≡ Some at.c) same at.there;
        able = at.able;
        next = at.next;
        rest = at.rest;
        left = at.left;
        drawn_is = subst (λ (m : ℕ). slice_get (calls ++ map stepping ready) ((x' / 2 ^ 33) % m) ≡ Some call) (sym lengths) there;
      }

  -- and where there is nothing to be drawn, there is no call
  no_items : {A : Type 0} (xs : List A) → xs ≡ [] → length xs ≡ 0
  no_items {A} xs none = ap (λ (l : List A). length l) none

  empty_of : {A : Type 0} (xs : List A) → length xs ≡ 0 → xs ≡ []
  empty_of [] none = refl
  empty_of (y ∷ ys) none = absurd (omega (arith, none))

  pub no_calls : able_of 0 cs ≡ [] → ready ≡ [] → possible_calls (lefts cs) book ready ≡ []
  no_calls no_client no_step = empty_of (possible_calls (lefts cs) book ready)
      (omega (arith, lengths, no_items (able_of 0 cs) no_client, no_items ready no_step))
