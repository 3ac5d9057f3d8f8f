-- A command behind a `wait` comes once each accepted transaction of its client is acknowledged.
use Rattle.std.proofs.Common.{◌≡◌, ◌⊎◌, inl, inr, ℕ, zero, suc, ◌+◌, ◌<◌, ◌≤◌, Bool, true, false, cond, List, [], ◌∷◌, ◌++◌, map, take, length, Option, Some, None}
use Rattle.std.proofs.Common.{refl, sym, ap, subst, ◌∙◌, arith, append_assoc, length-append, append-nil}
use Rattle.std.specs.Prelude.{slice_get, is_some, ◌&&◌, ◌||◌, not, ◌==◌, nat_lt, option_and_then, IfSome, IsSomeAnd}
use Rattle.std.specs.List.{list_any}
use Rattle.std.proofs.lemmas.Bool.{lt-ltb, le-ltb, ltb-true, ltb-false, eqb-true, ne_eqb}
use Rattle.std.proofs.lemmas.List.{length-map}
use Rattle.std.proofs.lemmas.Option.{IfSome_then, same_Some}
use Rattle.block_device.specs.Prelude.{Disk}
use Rattle.object_model.specs.declared.book.Book.{Book}
use Rattle.object_model.specs.declared.book.Commit.{Commit}
use Rattle.object_model.specs.declared.book.Entry.{Entry}
use Rattle.object_model.specs.declared.command.Command.{Command}
use Rattle.object_model.specs.declared.command.Command.TheVariants as command
use Rattle.object_model.specs.declared.command.Read.{Read}
use Rattle.script_text.specs.declared.line.Line.{Line}
use Rattle.store_steps.specs.declared.step.Step.{Step}
use Rattle.store_steps.specs.declared.step.Step.TheVariants as steps
use Rattle.store_steps.specs.Prelude.{State, commit_of, Call, stepping, Submits, Reads, DoesOrFails, Calls}
use Rattle.run_facts.specs.Prelude.{AcksAre, IsKept, BookStep, book_same, book_commits, book_acks}
use Rattle.run_facts.proofs.Prelude.{book_step, kept_call}
use Rattle.book_facts.specs.Prelude.{commit_places}
use Rattle.book_facts.proofs.Prelude.{places_acknowledged}
use Rattle.plan_proofs.proofs.PlanLaws.{plans_keep}
use Rattle.object_model.specs.Prelude.{is_acknowledged}
use Rattle.client_runs.specs.Prelude.{Ask, asks_of, is_accepted_of, unacked_from, unacked, may_ask, call_of, next_call, client_calls, ready_list, scripts_behind, asks_after, Position, calls_at, Draws, IsDrawnRun, command_sum, Asked, asked_in, asked_by, entries_of, EachAskedUpTo, at_position, IsNew, EndsRun, RunsUpTo}
use Rattle.client_runs.specs.declared.run_fail.RunFail.{RunFail}
use Rattle.client_runs.specs.declared.run_fail.RunFail.TheVariants as run
use Rattle.bstore_top.specs.Waiting.{is_among_first, HasWaited, IsBehindWait, EachHasWaited, HaveWaited}

-- ---- commits go on

-- places with others behind them
abbrev pub GoesOnWith : List ℕ → List ℕ → Type 0
GoesOnWith old new = (more : List ℕ) × (new ≡ old ++ more)

with_none : (old new : List ℕ) → new ≡ old → GoesOnWith old new
with_none old new same = ([], same ∙ sym (append-nil old))

with_both : (a b c : List ℕ) → GoesOnWith a b → GoesOnWith b c → GoesOnWith a c
with_both a b c first second =
    (first.0 ++ second.0, second.1 ∙ (ap (λ (l : List ℕ). l ++ second.0) first.1 ∙ append_assoc a first.0 second.0))

-- The entries stay as they are, and the commits go on.
pub record BookGoesOn (old new : Book) : Type 0 where
  pub entries : new.entries ≡ old.entries
  pub commits : GoesOnWith (commit_places old.commits) (commit_places new.commits)

goes_both : {a b c : Book} → BookGoesOn a b → BookGoesOn b c → BookGoesOn a c
goes_both {a} {b} {c} first second = record {
  entries = second.entries ∙ first.entries;
  commits = with_both (commit_places a.commits) (commit_places b.commits) (commit_places c.commits) first.commits second.commits;
}

book_stays : (old new : Book) → new ≡ old → BookGoesOn old new
book_stays old new same = record {
  entries = ap (λ (b : Book). b.entries) same;
  commits = with_none _ _ (ap (λ (b : Book). commit_places b.commits) same);
}

places_behind : (cs ds : List Commit) → commit_places (cs ++ ds) ≡ commit_places cs ++ commit_places ds
places_behind [] ds = refl
places_behind (x ∷ cs) ds = ap (λ (l : List ℕ). x.place ∷ l) (places_behind cs ds)

pub step_goes_on : (step : Step) (s : State) (d : Disk) (s' : State) (d' : Disk) → DoesOrFails step s d s' d' → BookGoesOn s.book s'.book
step_goes_on step s d s' d' does = of_book step (book_step step s d s' d' does)
  where
    of_book : (step : Step) → BookStep s s' step → BookGoesOn s.book s'.book
    of_book step (book_same is) = book_stays s.book s'.book is
    of_book steps.Take (book_commits xs is) = record {
      entries = ap (λ (b : Book). b.entries) is;
      commits = (commit_places (map commit_of xs), ap (λ (b : Book). commit_places b.commits) is ∙ places_behind s.book.commits (map commit_of xs));
    }
    of_book steps.Finish (book_acks is) = record {
      entries = ap (λ (b : Book). b.entries) is;
      commits = with_none _ _ (ap (λ (b : Book). commit_places b.commits) is ∙ places_acknowledged s.events s.book.commits);
    }

-- ---- commands of clients

-- a command was answered, and has its entry
pub record Enters (client : ℕ) (s s' : State) : Type 0 where
  pub e : Entry
  pub client_is : e.client ≡ client
  pub acks : e.acks ≡ s.acked
  pub entries : s'.book.entries ≡ s.book.entries ++ e ∷ []
  pub commits : s'.book.commits ≡ s.book.commits

submit_enters : (client line : ℕ) (change : _) (s : State) (d : Disk) (s' : State) → Submits client line change s d s' → (s' ≡ s) ⊎ Enters client s s'
submit_enters client line change s d s' (inl accepts) = inr (record {
  e = _;
  client_is = refl;
  acks = refl;
  entries = ap (λ (z : State). z.book.entries) accepts.after;
  commits = ap (λ (z : State). z.book.commits) accepts.after;
})
submit_enters client line change s d s' (inr (inl refuses)) = inr (record {
  e = _;
  client_is = refl;
  acks = refl;
  entries = ap (λ (z : State). z.book.entries) refuses.1.after;
  commits = ap (λ (z : State). z.book.commits) refuses.1.after;
})
submit_enters client line change s d s' (inr (inr away)) = inl away.same

read_enters : (client line : ℕ) (read : Read) (s : State) (d : Disk) (s' : State) → Reads client line read s d s' → (s' ≡ s) ⊎ Enters client s s'
read_enters client line read s d s' (inl answers) = inr (record {
  e = _;
  client_is = refl;
  acks = refl;
  entries = ap (λ (z : State). z.book.entries) answers.1.after;
  commits = ap (λ (z : State). z.book.commits) answers.1.after;
})
read_enters client line read s d s' (inr away) = inl away.same

call_enters : (client line : ℕ) (command : Command) (s : State) (d : Disk) (s' : State) (d' : Disk) → Calls (call_of client line command) s d s' d'
    → (s' ≡ s) ⊎ Enters client s s'
call_enters client line (command.Change change) s d s' d' calls = submit_enters client line change s d s' calls.1
call_enters client line (command.Read read) s d s' d' calls = read_enters client line read s d s' calls.0

behind_call : (client line : ℕ) (command : Command) (clients : List (List Ask)) → asks_after (call_of client line command) clients ≡ scripts_behind client clients
behind_call client line (command.Change change) clients = refl
behind_call client line (command.Read read) clients = refl

-- ---- what is drawn

-- it is the next command of a client that can come
pub record IsNextOf (first : ℕ) (clients : List (List Ask)) (book : Book) (call : Call) : Type 0 where
  pub i : ℕ
  pub next : Ask
  pub rest : List Ask
  pub there : slice_get clients i ≡ Some (next ∷ rest)
  pub may : may_ask (first + i) next book ≡ true
  pub is : call ≡ call_of (first + i) next.line next.command

-- an item of two lists is one of either
of_both : {A : Type 0} (xs ys : List A) (k : ℕ) (x : A) → slice_get (xs ++ ys) k ≡ Some x
    → (slice_get xs k ≡ Some x) ⊎ ((i : ℕ) × (slice_get ys i ≡ Some x))
of_both [] ys k x found = inr (k, found)
of_both (y ∷ xs) ys zero x found = inl found
of_both (y ∷ xs) ys (suc k) x found = of_both xs ys k x found

of_steps : (steps : List Step) (k : ℕ) (call : Call) → slice_get (map stepping steps) k ≡ Some call → (step : Step) × (call ≡ stepping step)
of_steps [] k call found = absurd cc
of_steps (step ∷ steps) zero call found = (step, cc)
of_steps (step ∷ steps) (suc k) call found = of_steps steps k call found

of_next : (client : ℕ) (asks : List Ask) (book : Book) (k : ℕ) (call : Call) → slice_get (next_call client asks book) k ≡ Some call
    → (next : Ask) × ((rest : List Ask) × ((asks ≡ next ∷ rest) × (may_ask client next book ≡ true) × (call ≡ call_of client next.line next.command)))
of_next client [] book k call found = absurd cc
of_next client (a ∷ rest) book k call found = by_test (may_ask client a book) refl found
  where
    by_test : (b : Bool) → may_ask client a book ≡ b → slice_get (cond b (call_of client a.line a.command ∷ []) []) k ≡ Some call
        → (next : Ask) × ((more : List Ask) × ((a ∷ rest ≡ next ∷ more) × (may_ask client next book ≡ true) × (call ≡ call_of client next.line next.command)))
    by_test true may found = (a, (rest, (refl, may, by_place k found)))
      where
        by_place : (k : ℕ) → slice_get (call_of client a.line a.command ∷ []) k ≡ Some call → call ≡ call_of client a.line a.command
        by_place zero found = cc
        by_place (suc k) found = absurd cc
    by_test false may found = absurd cc

of_clients : (first : ℕ) (clients : List (List Ask)) (book : Book) (k : ℕ) (call : Call) → slice_get (client_calls first clients book) k ≡ Some call
    → IsNextOf first clients book call
of_clients first [] book k call found = absurd cc
of_clients first (asks ∷ more) book k call found = elim (of_both (next_call first asks book) (client_calls (first + 1) more book) k call found) [
  | inl here ↦ (let next = of_next first asks book k call here in
      let same : first ≡ first + 0 = omega arith in
      record {
        i = 0;
        next = next.0;
        rest = next.1.0;
        there = ap (λ (l : List Ask). Some l) next.1.1.0;
        may = subst (λ (n : ℕ). may_ask n next.0 book ≡ true) same next.1.1.1;
        is = subst (λ (n : ℕ). call ≡ call_of n next.0.line next.0.command) same next.1.1.2;
      })
  | inr later ↦ (let next : IsNextOf (first + 1) more book call = of_clients (first + 1) more book later.0 call later.1 in
      let same : first + 1 + next.i ≡ first + suc next.i = omega arith in
      record {
        i = suc next.i;
        next = next.next;
        rest = next.rest;
        there = next.there;
        may = subst (λ (n : ℕ). may_ask n next.next book ≡ true) same next.may;
        is = subst (λ (n : ℕ). call ≡ call_of n next.next.line next.next.command) same next.is;
      })
]

-- a call that was drawn is a client's or a step
drawn_of : (p : Position) (k : ℕ) (call : Call) → slice_get (calls_at p) k ≡ Some call → IsNextOf 0 p.clients p.state.book call ⊎ ((step : Step) × (call ≡ stepping step))
drawn_of p k call found = elim (of_both (client_calls 0 p.clients p.state.book) (map stepping (ready_list p.disk.depth p.state)) k call found) [
  | inl client ↦ inl (of_clients 0 p.clients p.state.book k call client)
  | inr step ↦ inr (of_steps (ready_list p.disk.depth p.state) step.0 call step.1)
]

-- ---- no command is lost

left_behind : (i : ℕ) (clients : List (List Ask)) (next : Ask) (rest : List Ask) → slice_get clients i ≡ Some (next ∷ rest)
    → command_sum (scripts_behind i clients) + 1 ≡ command_sum clients
left_behind i [] next rest there = absurd cc
left_behind zero (asks ∷ more) next rest there =
    let same : asks ≡ next ∷ rest = same_Some asks (next ∷ rest) there in
    subst (λ (l : List Ask). command_sum (scripts_behind zero (l ∷ more)) + 1 ≡ command_sum (l ∷ more)) (sym same) (omega arith)
left_behind (suc i) (asks ∷ more) next rest there = let ih = left_behind i more next rest there in omega (arith, ih)

-- the entries that there are, and the commands left
abbrev total : Position → ℕ
total p = length p.state.book.entries + command_sum p.clients

-- what a draw comes to: a step, a command that has its entry, or one that was turned away
pub data Drew (p r : Position) : Type 0 where
  drew_step : r.clients ≡ p.clients → BookGoesOn p.state.book r.state.book → Drew p r
  drew_client : (i : ℕ) (next : Ask) (rest : List Ask) → slice_get p.clients i ≡ Some (next ∷ rest) → may_ask i next p.state.book ≡ true
      → r.clients ≡ scripts_behind i p.clients → (r.state ≡ p.state) ⊎ Enters i p.state r.state → Drew p r

drew : (p : Position) (call : Call) (r : Position) → Draws p call r → Drew p r
drew p call r draws = elim (drawn_of p _ call draws.drawn) [
  | inl next ↦ (let same : 0 + next.i ≡ next.i = omega arith in
      let made : Calls (call_of (0 + next.i) next.next.line next.next.command) p.state p.disk r.state r.disk =
      subst (λ (c : Call). Calls c p.state p.disk r.state r.disk) next.is draws.called in
      drew_client next.i next.next next.rest next.there (subst (λ (n : ℕ). may_ask n next.next p.state.book ≡ true) same next.may)
      (draws.clients ∙ (ap (λ (c : Call). asks_after c p.clients) next.is
      ∙ (behind_call (0 + next.i) next.next.line next.next.command p.clients ∙ ap (λ (n : ℕ). scripts_behind n p.clients) same)))
      (subst (λ (n : ℕ). (r.state ≡ p.state) ⊎ Enters n p.state r.state) same
      (call_enters (0 + next.i) next.next.line next.next.command p.state p.disk r.state r.disk made)))
  | inr step ↦ drew_step (draws.clients ∙ ap (λ (c : Call). asks_after c p.clients) step.1)
      (step_goes_on step.0 p.state p.disk r.state r.disk (subst (λ (c : Call). Calls c p.state p.disk r.state r.disk) step.1 draws.called).1)
]

-- commands turn into entries, or are lost
drew_total : (p r : Position) → Drew p r → total r ≤ total p
drew_total p r (drew_step clients goes) =
    omega (arith, ap command_sum clients, ap (λ (es : List Entry). length es) goes.entries)
drew_total p r (drew_client i next rest there may clients (inl same)) =
    omega (arith, ap command_sum clients, left_behind i p.clients next rest there, ap (λ (z : State). length z.book.entries) same)
drew_total p r (drew_client i next rest there may clients (inr enters)) =
    omega (
      arith,
      ap command_sum clients,
      left_behind i p.clients next rest there,
      ap (λ (es : List Entry). length es) enters.entries,
      length-append p.state.book.entries (enters.e ∷ []),
    )

run_total : (p : Position) (calls : List Call) (q : Position) → IsDrawnRun p calls q → total q ≤ total p
run_total p [] q run = omega (arith, ap total run)
run_total p (call ∷ calls) q run =
    let first = drew_total p run.0 (drew p call run.0 run.1.0) in
    let rest = run_total run.0 calls q run.1.1 in
    omega (arith, first, rest)

-- ---- what is acknowledged

-- where all of a client's are, each accepted one is
each_acknowledged : (client first : ℕ) (commits : List Commit) (es : List Entry) → unacked_from client commits first es ≡ 0
    → (i : ℕ) → IfSome (slice_get es i) (λ f. is_accepted_of client f ≡ true → is_acknowledged commits (first + i) ≡ true)
each_acknowledged client first commits [] none i = tt
each_acknowledged client first commits (e ∷ es) none i =
    by_place i (by_test (is_accepted_of client e && not (is_acknowledged commits first)) refl none) (each_acknowledged client (first + 1) commits es)
  where
    by_test : (b : Bool) → (is_accepted_of client e && not (is_acknowledged commits first)) ≡ b
        → cond b (unacked_from client commits (first + 1) es + 1) (unacked_from client commits (first + 1) es) ≡ 0
        → ((is_accepted_of client e && not (is_acknowledged commits first)) ≡ false) × (unacked_from client commits (first + 1) es ≡ 0)
    by_test true is none = absurd (omega (arith, none))
    by_test false is none = (is, none)

    by_ack : (a b : Bool) → (a && not b) ≡ false → a ≡ true → b ≡ true
    by_ack true true is there = refl
    by_ack true false is there = absurd cc
    by_ack false b is there = absurd cc

    by_place : (i : ℕ) → ((is_accepted_of client e && not (is_acknowledged commits first)) ≡ false) × (unacked_from client commits (first + 1) es ≡ 0)
        → (unacked_from client commits (first + 1) es ≡ 0
        → (j : ℕ) → IfSome (slice_get es j) (λ f. is_accepted_of client f ≡ true → is_acknowledged commits (first + 1 + j) ≡ true))
        → IfSome (slice_get (e ∷ es) i) (λ f. is_accepted_of client f ≡ true → is_acknowledged commits (first + i) ≡ true)
    by_place zero known later = λ accepted. subst (λ (n : ℕ). is_acknowledged commits n ≡ true) {x = first} {y = first + 0} (omega arith)
        (by_ack (is_accepted_of client e) (is_acknowledged commits first) known.0 accepted)
    by_place (suc i) known later = IfSome_then (slice_get es i) (later known.1 i)
        (λ (f : Entry) is accepted. subst (λ (n : ℕ). is_acknowledged commits n ≡ true) {x = first + 1 + i} {y = first + suc i} (omega arith) (is accepted))

lt_less : (i k : ℕ) (b : Bool) → nat_lt (suc i) (suc k) ≡ b → nat_lt i k ≡ b
lt_less i k true is = lt-ltb i k (let less = ltb-true (suc i) (suc k) is in omega (arith, less))
lt_less i k false is = le-ltb i k (let more = ltb-false (suc i) (suc k) is in omega (arith, more))

-- what is acknowledged is among the first commits, where these are the acknowledged ones
among_first : (acked : ℕ) (commits : List Commit) (place : ℕ) → AcksAre acked commits → is_acknowledged commits place ≡ true
    → is_among_first acked commits place ≡ true
among_first zero [] place acks is = is
among_first (suc acked) [] place acks is = is
among_first zero (c ∷ cs) place acks is =
    by_place (c.place == place) (is_some c.acked_at) (acks 0) is (among_first zero cs place
    (λ i. IfSome_then (slice_get cs i) (acks (suc i)) (λ (d : Commit) is. is ∙ (le-ltb (suc i) 0 (omega arith) ∙ sym (le-ltb i 0 (omega arith))))))
  where
    by_place : (a b : Bool) → b ≡ nat_lt 0 0 → ((a && b) || is_acknowledged cs place) ≡ true → (is_acknowledged cs place ≡ true → false ≡ true)
        → false ≡ true
    by_place true true none is later = sym (none ∙ le-ltb 0 0 (omega arith))
    by_place true false none is later = later is
    by_place false b none is later = later is
among_first (suc acked) (c ∷ cs) place acks is =
    by_place (c.place == place) (is_some c.acked_at) is (among_first acked cs place
    (λ i. IfSome_then (slice_get cs i) (acks (suc i)) (λ (d : Commit) is. sym (lt_less i acked (is_some d.acked_at) (sym is)))))
  where
    by_place : (a b : Bool) → ((a && b) || is_acknowledged cs place) ≡ true → (is_acknowledged cs place ≡ true → is_among_first acked cs place ≡ true)
        → (a || is_among_first acked cs place) ≡ true
    by_place true b is later = refl
    by_place false b is later = later is

among_places : (n place : ℕ) (cs : List Commit) → is_among_first n cs place ≡ list_any (λ p. p == place) (take n (commit_places cs))
among_places zero place cs = refl
among_places (suc n) place [] = refl
among_places (suc n) place (c ∷ cs) = ap (λ (b : Bool). (c.place == place) || b) (among_places n place cs)

any_more : (n place : ℕ) (xs ys : List ℕ) → list_any (λ p. p == place) (take n xs) ≡ true → list_any (λ p. p == place) (take n (xs ++ ys)) ≡ true
any_more zero place xs ys is = is
any_more (suc n) place [] ys is = absurd cc
any_more (suc n) place (x ∷ xs) ys is = by_test (x == place) is (any_more n place xs ys)
  where
    by_test : (b : Bool) → (b || list_any (λ p. p == place) (take n xs)) ≡ true
        → (list_any (λ p. p == place) (take n xs) ≡ true → list_any (λ p. p == place) (take n (xs ++ ys)) ≡ true)
        → (b || list_any (λ p. p == place) (take n (xs ++ ys))) ≡ true
    by_test true is later = refl
    by_test false is later = later is

among_more : (n place : ℕ) (cs cs' : List Commit) → GoesOnWith (commit_places cs) (commit_places cs') → is_among_first n cs place ≡ true
    → is_among_first n cs' place ≡ true
among_more n place cs cs' goes is =
    among_places n place cs'
    ∙ (ap (λ (l : List ℕ). list_any (λ p. p == place) (take n l)) goes.1
    ∙ any_more n place (commit_places cs) goes.0 (sym (among_places n place cs) ∙ is))

-- ---- entries that have waited

get_front : {A : Type 0} (xs ys : List A) (i : ℕ) → i < length xs → slice_get (xs ++ ys) i ≡ slice_get xs i
get_front [] ys i below = absurd (omega (arith, below))
get_front (x ∷ xs) ys zero below = refl
get_front (x ∷ xs) ys (suc i) below = get_front xs ys i (omega (arith, below))

waited_more : (book book' : Book) (place : ℕ) (e : Entry) → BookGoesOn book book' → HasWaited book place e → HasWaited book' place e
waited_more book book' place e goes waited i below =
    subst (λ (es : List Entry). IfSome (slice_get es i) (λ f. is_accepted_of e.client f ≡ true → is_among_first e.acks book'.commits i ≡ true))
    (sym goes.entries)
    (IfSome_then (slice_get book.entries i) (waited i below)
    (λ (f : Entry) is accepted. among_more e.acks i book.commits book'.commits goes.commits (is accepted)))

each_more : (lefts : List (List Ask)) (book book' : Book) (place : ℕ) (es : List Entry) → BookGoesOn book book' → EachHasWaited lefts book place es
    → EachHasWaited lefts book' place es
each_more lefts book book' place [] goes waited = tt
each_more lefts book book' place (e ∷ es) goes waited = (
  λ waits. waited_more book book' place e goes (waited.0 waits),
  each_more (scripts_behind e.client lefts) book book' (place + 1) es goes waited.1,
)

-- a run's entries have waited, and its commits went on
pub record RunWaits (p q : Position) : Type 0 where
  pub new : List Entry
  pub entries : q.state.book.entries ≡ p.state.book.entries ++ new
  pub commits : GoesOnWith (commit_places p.state.book.commits) (commit_places q.state.book.commits)
  pub waited : EachHasWaited p.clients q.state.book (length p.state.book.entries) new

no_call_waits : (p q : Position) → q ≡ p → RunWaits p q
no_call_waits p q same = record {
  new = [];
  entries = ap (λ (z : Position). z.state.book.entries) same ∙ sym (append-nil p.state.book.entries);
  commits = with_none _ _ (ap (λ (z : Position). commit_places z.state.book.commits) same);
  waited = tt;
}

-- a step first
step_waits : (p r q : Position) → r.clients ≡ p.clients → BookGoesOn p.state.book r.state.book → RunWaits r q → RunWaits p q
step_waits p r q clients goes rest = record {
  new = rest.new;
  entries = rest.entries ∙ ap (λ (es : List Entry). es ++ rest.new) goes.entries;
  commits = with_both _ _ _ goes.commits rest.commits;
  waited = subst (λ (cs : List (List Ask)). EachHasWaited cs q.state.book (length p.state.book.entries) rest.new) clients
      (subst (λ (es : List Entry). EachHasWaited r.clients q.state.book (length es) rest.new) goes.entries rest.waited);
}

-- a client's `wait` is over where its command comes
over : (i : ℕ) (next : Ask) (book : Book) → may_ask i next book ≡ true → next.waits ≡ true → unacked i book ≡ 0
over i next book may waits = eqb-true (unacked i book) 0 (by_test next.waits (unacked i book == 0) waits may)
  where
    by_test : (a b : Bool) → a ≡ true → (not a || b) ≡ true → b ≡ true
    by_test true b is may = may
    by_test false b is may = absurd cc

-- a command first, whose entry has waited
client_waits : (p r q : Position) (i : ℕ) (next : Ask) (rest : List Ask) → slice_get p.clients i ≡ Some (next ∷ rest)
    → may_ask i next p.state.book ≡ true → r.clients ≡ scripts_behind i p.clients → (enters : Enters i p.state r.state) → AcksAre p.state.acked p.state.book.commits
    → RunWaits r q → RunWaits p q
client_waits p r q i next rest there may clients enters acks later = record {
  new = enters.e ∷ later.new;
  entries = entries;
  commits = goes;
  waited = (here, behind_it);
}
  where
    entries : q.state.book.entries ≡ p.state.book.entries ++ enters.e ∷ later.new
    entries = later.entries ∙ (ap (λ (es : List Entry). es ++ later.new) enters.entries ∙ append_assoc p.state.book.entries (enters.e ∷ []) later.new)

    goes : GoesOnWith (commit_places p.state.book.commits) (commit_places q.state.book.commits)
    goes = with_both _ _ _ (with_none _ _ (ap commit_places enters.commits)) later.commits

    among : next.waits ≡ true → (j : ℕ) → j < length p.state.book.entries
        → IfSome (slice_get q.state.book.entries j) (λ f. is_accepted_of enters.e.client f ≡ true → is_among_first enters.e.acks q.state.book.commits j ≡ true)
    among waits j below =
        let known = each_acknowledged i 0 p.state.book.commits p.state.book.entries (over i next p.state.book may waits) j in
        subst (λ (o : Option Entry). IfSome o (λ f. is_accepted_of enters.e.client f ≡ true → is_among_first enters.e.acks q.state.book.commits j ≡ true))
        (sym (ap (λ (es : List Entry). slice_get es j) entries ∙ get_front p.state.book.entries (enters.e ∷ later.new) j below))
        (IfSome_then (slice_get p.state.book.entries j) known (λ (f : Entry) is accepted.
        subst (λ (n : ℕ). is_among_first n q.state.book.commits j ≡ true) (sym enters.acks)
        (among_more p.state.acked j p.state.book.commits q.state.book.commits goes
        (among_first p.state.acked p.state.book.commits j acks
        (subst (λ (n : ℕ). is_acknowledged p.state.book.commits n ≡ true) {x = 0 + j} {y = j} (omega arith)
        (is (subst (λ (n : ℕ). is_accepted_of n f ≡ true) enters.client_is accepted)))))))

    waits_there : IsBehindWait i p.clients → next.waits ≡ true
    waits_there waits =
        subst (λ (o : Option (List Ask)). IsSomeAnd (option_and_then (λ asks. slice_get asks 0) o) (λ a. a.waits ≡ true)) there waits

    here : IsBehindWait enters.e.client p.clients → HasWaited q.state.book (length p.state.book.entries) enters.e
    here waits = among (waits_there (subst (λ (n : ℕ). IsBehindWait n p.clients) enters.client_is waits))

    behind_it : EachHasWaited (scripts_behind enters.e.client p.clients) q.state.book (length p.state.book.entries + 1) later.new
    behind_it =
        subst (λ (n : ℕ). EachHasWaited (scripts_behind n p.clients) q.state.book (length p.state.book.entries + 1) later.new) (sym enters.client_is)
        (subst (λ (cs : List (List Ask)). EachHasWaited cs q.state.book (length p.state.book.entries + 1) later.new) clients
        (subst (λ (n : ℕ). EachHasWaited r.clients q.state.book n later.new)
        (ap (λ (es : List Entry). length es) enters.entries ∙ length-append p.state.book.entries (enters.e ∷ [])) later.waited))

drew_waits : (p r q : Position) → Drew p r → total p ≤ total r → AcksAre p.state.acked p.state.book.commits → RunWaits r q → RunWaits p q
drew_waits p r q (drew_step clients goes) all acks rest = step_waits p r q clients goes rest
drew_waits p r q (drew_client i next behind_it there may clients (inl same)) all acks rest =
    absurd (omega (arith, all, ap command_sum clients, left_behind i p.clients next behind_it there, ap (λ (z : State). length z.book.entries) same))
drew_waits p r q (drew_client i next behind_it there may clients (inr enters)) all acks rest =
    client_waits p r q i next behind_it there may clients enters acks rest

-- a run in which no command is lost
run_waits : (p : Position) (calls : List Call) (q : Position) → IsDrawnRun p calls q → IsKept p.state p.disk → total p ≤ total q → RunWaits p q
run_waits p [] q run kept all = no_call_waits p q run
run_waits p (call ∷ calls) q run kept all =
    let r : Position = run.0 in
    let draws : Draws p call r = run.1.0 in
    let more = run_total r calls q run.1.1 in
    let less = drew_total p r (drew p call r draws) in
    let kept_r : IsKept r.state r.disk = kept_call call p.state r.state p.disk r.disk plans_keep kept draws.called draws.sound in
    drew_waits p r q (drew p call r draws) (omega (arith, all, more)) kept.always.book.acks
    (run_waits r calls q run.1.1 kept_r (omega (arith, all, less)))

-- ---- behind the clients

-- where no client has a command left, steps alone are drawn
run_goes_on : (p : Position) (calls : List Call) (q : Position) → IsDrawnRun p calls q → p.clients ≡ [] → BookGoesOn p.state.book q.state.book
run_goes_on p [] q run none = book_stays _ _ (ap (λ (z : Position). z.state.book) run)
run_goes_on p (call ∷ calls) q run none = by_draw (drew p call run.0 run.1.0) (run_goes_on run.0 calls q run.1.1)
  where
    by_draw : Drew p run.0 → (run.0.clients ≡ [] → BookGoesOn run.0.state.book q.state.book) → BookGoesOn p.state.book q.state.book
    by_draw (drew_step clients goes) later = goes_both goes (later (clients ∙ none))
    by_draw (drew_client i next rest there may clients made) later =
        let empty : slice_get {X = List Ask} [] i ≡ Some (next ∷ rest) = subst (λ (cs : List (List Ask)). slice_get cs i ≡ Some (next ∷ rest)) none there in
        absurd cc

ends_goes_on : (start : Position) (fail : Option RunFail) (p q : Position) → EndsRun start fail p q → BookGoesOn p.state.book q.state.book
ends_goes_on start None p q ended = book_stays _ _ (ap (λ (z : Position). z.state.book) ended.0)
ends_goes_on start (Some run.Fault) p q ended = book_stays _ _ (ap (λ (z : Position). z.state.book) ended.0)
ends_goes_on start (Some run.Memory) p q ended = book_stays _ _ (ap (λ (z : Position). z.state.book) ended.0)
ends_goes_on start (Some run.DeviceRead) p q ended =
    subst (λ (s : State). BookGoesOn s.book q.state.book) ended.lost.state
    (run_goes_on ended.resumed ended.leads.calls q ended.leads.run ended.lost.clients)

-- the entries are those up to where the clients were
pub ends_entries : (fail : Option RunFail) (x : ℕ) (scripts : List (List Line)) (s : State) (d : Disk) (s' : State) (d' : Disk)
    → (ran : RunsUpTo fail x scripts s d s' d') → s'.book.entries ≡ ran.reached.state.book.entries
ends_entries fail x scripts s d s' d' ran =
    ap (λ (t : State). t.book.entries) (sym ran.state) ∙ (ends_goes_on _ fail ran.reached ran.last ran.ended).entries

-- ---- all commands are entries or left

-- the entries of clients, of which the first has this number
count_of : ℕ → List (List Ask) → List Entry → ℕ
count_of client [] es = 0
count_of client (asks ∷ more) es = length (entries_of client es) + count_of (client + 1) more es

none_of : (client : ℕ) (scripts : List (List Ask)) → count_of client scripts [] ≡ 0
unfolding count_of
none_of client [] = refl
none_of client (asks ∷ more) = let ih = none_of (client + 1) more in omega (arith, ih)

-- an entry of none of them
not_of : (client : ℕ) (scripts : List (List Ask)) (e : Entry) (es : List Entry) → e.client < client → count_of client scripts (e ∷ es) ≡ count_of client scripts es
unfolding count_of
not_of client [] e es below = refl
not_of client (asks ∷ more) e es below =
    let rest = not_of (client + 1) more e es (omega (arith, below)) in
    let other : (e.client == client) ≡ false = ne_eqb e.client client (λ same. omega (arith, same, below)) in
    let here : length (cond (e.client == client) (e ∷ entries_of client es) (entries_of client es)) ≡ length (entries_of client es) =
    ap (λ (b : Bool). length (cond b (e ∷ entries_of client es) (entries_of client es))) other in
    omega (arith, rest, here)

-- one entry is of at most one of them
one_of : (client : ℕ) (scripts : List (List Ask)) (e : Entry) (es : List Entry) → count_of client scripts (e ∷ es) ≤ count_of client scripts es + 1
unfolding count_of
one_of client [] e es = omega arith
one_of client (asks ∷ more) e es = by_test (e.client == client) refl (one_of (client + 1) more e es)
  where
    by_test : (b : Bool) → (e.client == client) ≡ b → count_of (client + 1) more (e ∷ es) ≤ count_of (client + 1) more es + 1
        → length (cond b (e ∷ entries_of client es) (entries_of client es)) + count_of (client + 1) more (e ∷ es)
        ≤ length (entries_of client es) + count_of (client + 1) more es + 1
    by_test true is rest =
        let same = eqb-true e.client client is in
        let none = not_of (client + 1) more e es (omega (arith, same)) in
        omega (arith, none)
    by_test false is rest = omega (arith, rest)

few_of : (scripts : List (List Ask)) (es : List Entry) → count_of 0 scripts es ≤ length es
few_of scripts [] = let none = none_of 0 scripts in omega (arith, none)
few_of scripts (e ∷ es) =
    let one = one_of 0 scripts e es in
    let rest = few_of scripts es in
    omega (arith, one, rest)

asked_sum : (client : ℕ) (scripts : List (List Ask)) (es : List Entry) (lefts : List (List Ask)) → EachAskedUpTo client scripts es lefts
    → command_sum scripts ≡ count_of client scripts es + command_sum lefts
unfolding count_of
asked_sum client [] es [] asked = refl
asked_sum client [] es (left ∷ lefts) asked = absurd asked
asked_sum client (asks ∷ more) es [] asked = absurd asked
asked_sum client (asks ∷ more) es (left ∷ lefts) asked =
    let rest = asked_sum (client + 1) more es lefts asked.1 in
    let here = ap (λ (l : List Asked). length l) asked.0 in
    omega (
      arith,
      rest,
      here,
      length-append (map asked_in (entries_of client es)) (map (asked_by client) left),
      length-map asks (asked_by client),
      length-map (entries_of client es) asked_in,
      length-map left (asked_by client),
    )

-- ---- the whole run

pub have_waited : (fail : Option RunFail) (x : ℕ) (scripts : List (List Line)) (s : State) (d : Disk) (s' : State) (d' : Disk)
    → RunsUpTo fail x scripts s d s' d' → IsNew s → IsKept s d → HaveWaited scripts s'.book
have_waited fail x scripts s d s' d' ran new kept =
    subst (λ (es : List Entry). EachHasWaited (map asks_of scripts) s'.book 0 es) (sym all_new) (each_more (map asks_of scripts) ran.reached.state.book s'.book 0 waits.new goes from_0)
  where
    goes : BookGoesOn ran.reached.state.book s'.book
    goes = subst (λ (t : State). BookGoesOn ran.reached.state.book t.book) ran.state (ends_goes_on _ fail ran.reached ran.last ran.ended)

    none : s.book.entries ≡ []
    none = ap (λ (b : Book). b.entries) new.book

    all : total (at_position x (map asks_of scripts) s d) ≤ total ran.reached
    all =
        let sum = asked_sum 0 (map asks_of scripts) s'.book.entries ran.reached.clients ran.asked.each in
        let few = few_of (map asks_of scripts) s'.book.entries in
        omega (arith, sum, few, ap (λ (es : List Entry). length es) goes.entries, ap (λ (es : List Entry). length es) none)

    waits : RunWaits (at_position x (map asks_of scripts) s d) ran.reached
    waits = run_waits (at_position x (map asks_of scripts) s d) ran.leads.calls ran.reached ran.leads.run kept all

    from_0 : EachHasWaited (map asks_of scripts) ran.reached.state.book 0 waits.new
    from_0 = subst (λ (es : List Entry). EachHasWaited (map asks_of scripts) ran.reached.state.book (length es) waits.new) none waits.waited

    all_new : s'.book.entries ≡ waits.new
    all_new = goes.entries ∙ (waits.entries ∙ ap (λ (es : List Entry). es ++ waits.new) none)
