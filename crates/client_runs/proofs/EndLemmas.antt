-- Where there is no call, no client has a command left: what was accepted is committed and acknowledged.
use Rattle.std.proofs.Common.{◌≡◌, ℕ, zero, suc, ◌+◌, ◌<◌, Bool, true, false, cond, List, [], ◌∷◌, ◌++◌, map, length, Option, Some, None}
use Rattle.std.proofs.Common.{ap, ◌∙◌, sym, refl, subst, arith, append-nil}
use Rattle.std.specs.Prelude.{slice_get, is_some, IfSome, filter, ◌==◌, ◌&&◌, ◌||◌, not, if◌then◌else◌}
use Rattle.std.specs.List.{AllByRecursion, list_any}
use Rattle.std.proofs.lemmas.Bool.{eq-eqb, lt-ltb}
use Rattle.std.proofs.lemmas.Option.{IfSome_then}
use Rattle.block_device.specs.Prelude.{Disk}
use Rattle.object_model.specs.Prelude.{Change, accepted_change, change_at, is_on, places_from, entry_places, committed_places, is_acknowledged}
use Rattle.object_model.proofs.Names.{is_same_itself}
use Rattle.object_model.specs.declared.book.Book.{Book}
use Rattle.object_model.specs.declared.book.Commit.{Commit}
use Rattle.object_model.specs.declared.book.Entry.{Entry}
use Rattle.store_steps.specs.declared.context.Context.{Context}
use Rattle.store_steps.specs.declared.step.Step.{Step}
use Rattle.store_steps.specs.Prelude.{State, Call, stepping, intents, is_drained, is_empty}
use Rattle.run_facts.specs.Prelude.{IsKept}
use Rattle.run_facts.proofs.Prelude.{idle_pending, idle_acked}
use Rattle.book_facts.specs.Prelude.{IsInOrder, AreQueued}
use Rattle.client_runs.specs.Prelude.{Ask, is_accepted_of, unacked_from, unacked, may_ask, call_of, next_call, client_calls, ready_list, Position, calls_at}
use Rattle.client_runs.proofs.TieLemmas.{one_if, unacked_cons}

-- ---- places

-- whether a place is among these
abbrev pub is_among : ℕ → List ℕ → Bool
is_among p places = list_any (λ q. q == p) places

or_true : (b : Bool) → (b || true) ≡ true
or_true true = refl
or_true false = refl

-- the place of an accepted entry is among those of its collection
place_among : (coll : List ℕ) (place i : ℕ) (es : List Entry) → is_on coll (change_at es i) ≡ true
    → is_among (place + i) (places_from coll place es) ≡ true
place_among coll place i [] on = absurd cc
place_among coll place zero (e ∷ es) on =
    ap (λ (b : Bool). is_among (place + 0) (cond b (place ∷ places_from coll (place + 1) es) (places_from coll (place + 1) es))) on
    ∙ ap (λ (b : Bool). b || is_among (place + 0) (places_from coll (place + 1) es)) (eq-eqb place (place + 0) (omega arith))
place_among coll place (suc i) (e ∷ es) on =
    by_on (is_on coll (accepted_change e.command e.answer))
    (ap (λ (n : ℕ). is_among n (places_from coll (place + 1) es)) {x = place + suc i} {y = place + 1 + i} (omega arith) ∙ place_among coll (place + 1) i es on)
  where
    later : List ℕ
    later = places_from coll (place + 1) es

    by_on : (b : Bool) → is_among (place + suc i) later ≡ true → is_among (place + suc i) (cond b (place ∷ later) later) ≡ true
    by_on true ih = ap (λ (b : Bool). (place == (place + suc i)) || b) ih ∙ or_true (place == (place + suc i))
    by_on false ih = ih

-- a place among those of commits of a collection is acknowledged where all commits are
among_acked : (coll : List ℕ) (es : List Entry) (p : ℕ) (cs : List Commit) → AllByRecursion (λ c. is_some c.acked_at ≡ true) cs
    → is_among p (committed_places coll es cs) ≡ true → is_acknowledged cs p ≡ true
among_acked coll es p [] all among = absurd cc
among_acked coll es p (c ∷ cs) all among = by_on (is_on coll (change_at es c.place)) (among_acked coll es p cs all.1) among
  where
    behind_it : is_acknowledged cs p ≡ true → (((c.place == p) && is_some c.acked_at) || is_acknowledged cs p) ≡ true
    behind_it ih = ap (λ (b : Bool). ((c.place == p) && is_some c.acked_at) || b) ih ∙ or_true ((c.place == p) && is_some c.acked_at)

    here : (b : Bool) → (b || is_among p (committed_places coll es cs)) ≡ true
        → (is_among p (committed_places coll es cs) ≡ true → is_acknowledged cs p ≡ true) → ((b && true) || is_acknowledged cs p) ≡ true
    here true among ih = refl
    here false among ih = ih among

    by_on : (b : Bool) → (is_among p (committed_places coll es cs) ≡ true → is_acknowledged cs p ≡ true)
        → is_among p (map (λ (d : Commit). d.place)
        (cond b (c ∷ filter (λ (d : Commit). is_on coll (change_at es d.place)) cs) (filter (λ (d : Commit). is_on coll (change_at es d.place)) cs))) ≡ true
        → (((c.place == p) && is_some c.acked_at) || is_acknowledged cs p) ≡ true
    by_on true ih among = ap (λ (b : Bool). ((c.place == p) && b) || is_acknowledged cs p) all.0 ∙ here (c.place == p) among ih
    by_on false ih among = behind_it (ih among)

all_of : (cs : List Commit) → ((i : ℕ) → i < length cs → IfSome (slice_get cs i) (λ c. is_some c.acked_at ≡ true))
    → AllByRecursion (λ c. is_some c.acked_at ≡ true) cs
all_of [] acks = tt
all_of (c ∷ cs) acks = (acks 0 (omega arith), all_of cs (λ i below. acks (suc i) (omega (arith, below))))

-- ---- a book that is complete

-- each commit is acknowledged, and each collection's accepted transactions are committed
module _ (book : Book) (all_acked : AllByRecursion (λ c. is_some c.acked_at ≡ true) book.commits)
    (each_place : (coll : List ℕ) → entry_places coll book.entries ≡ committed_places coll book.entries book.commits) where
  -- what was accepted is acknowledged
  acked_at : (p : ℕ) (o : Option Change) → change_at book.entries p ≡ o → is_some o ≡ true → is_acknowledged book.commits p ≡ true
  acked_at p None is some = absurd cc
  acked_at p (Some change) is some =
      let on : is_on change.coll (change_at book.entries p) ≡ true = ap (λ (o : Option Change). is_on change.coll o) is ∙ is_same_itself change.coll in
      let among : is_among p (entry_places change.coll book.entries) ≡ true =
      ap (λ (n : ℕ). is_among n (entry_places change.coll book.entries)) {x = p} {y = 0 + p} (omega arith) ∙ place_among change.coll 0 p book.entries on in
      among_acked change.coll book.entries p book.commits all_acked (subst (λ (l : List ℕ). is_among p l ≡ true) (each_place change.coll) among)

  -- so no client has a transaction under way
  none_from : (client place : ℕ) (es : List Entry)
      → ((i : ℕ) → IfSome (slice_get es i) (λ e. is_some (accepted_change e.command e.answer) ≡ true → is_acknowledged book.commits (place + i) ≡ true))
      → unacked_from client book.commits place es ≡ 0
  none_from client place [] acks = refl
  none_from client place (e ∷ es) acks =
      let ih = none_from client (place + 1) es (λ i. IfSome_then (slice_get es i) (acks (suc i))
      (λ (x : Entry) is some. ap (λ (n : ℕ). is_acknowledged book.commits n) {x = place + 1 + i} {y = place + suc i} (omega arith) ∙ is some)) in
      let here : one_if (is_accepted_of client e && not (is_acknowledged book.commits place)) ≡ 0 =
      nothing (e.client == client) (is_some (accepted_change e.command e.answer)) (is_acknowledged book.commits place)
      (λ some. ap (λ (n : ℕ). is_acknowledged book.commits n) {x = place} {y = place + 0} (omega arith) ∙ acks 0 some) in
      omega (arith, unacked_cons client book.commits place e es, ih, here)
    where
      nothing : (a b k : Bool) → (b ≡ true → k ≡ true) → one_if ((a && b) && not k) ≡ 0
      nothing true true true acked = refl
      nothing true true false acked = absurd (let no : false ≡ true = acked refl in cc)
      nothing true false k acked = refl
      nothing false b k acked = refl

  change_of : (es : List Entry) (i : ℕ) → IfSome (slice_get es i) (λ e. change_at es i ≡ accepted_change e.command e.answer)
  change_of [] i = tt
  change_of (e ∷ es) zero = refl
  change_of (e ∷ es) (suc i) = change_of es i

  none_under_way : (client : ℕ) → unacked client book ≡ 0
  none_under_way client = none_from client 0 book.entries (λ i. IfSome_then (slice_get book.entries i) (change_of book.entries i)
      (λ (e : Entry) is some. ap (λ (n : ℕ). is_acknowledged book.commits n) {x = 0 + i} {y = i} (omega arith)
      ∙ acked_at i (accepted_change e.command e.answer) is some))

-- ---- the end of a run

pub both_empty : {A : Type 0} (xs ys : List A) → xs ++ ys ≡ [] → (xs ≡ []) × (ys ≡ [])
both_empty [] ys none = (refl, none)
both_empty (x ∷ xs) ys none = absurd cc

no_steps : (ready : List Step) → map stepping ready ≡ [] → ready ≡ []
no_steps [] none = refl
no_steps (x ∷ xs) none = absurd cc

drained_of : (depth : ℕ) (s : State) → ready_list depth s ≡ [] → is_drained depth s ≡ true
unfolding ready_list
drained_of depth s none = ap (λ (l : List Step). is_empty l) none

no_next : (client : ℕ) (asks : List Ask) (book : Book) → unacked client book ≡ 0 → next_call client asks book ≡ [] → asks ≡ []
no_next client [] book idle none = refl
no_next client (a ∷ rest) book idle none =
    let may : may_ask client a book ≡ true = ap (λ (n : ℕ). not a.waits || (n == 0)) idle ∙ or_true (not a.waits) in
    let call : Call = call_of client a.line a.command in
    let some : next_call client (a ∷ rest) book ≡ call ∷ [] = ap (λ (b : Bool). if b then (call ∷ []) else []) may in
    absurd (let no : call ∷ [] ≡ [] = sym some ∙ none in cc)

no_clients_left : (client : ℕ) (lists : List (List Ask)) (book : Book) → ((m : ℕ) → unacked m book ≡ 0) → client_calls client lists book ≡ []
    → AllByRecursion (λ asks. asks ≡ []) lists
no_clients_left client [] book idle none = tt
no_clients_left client (asks ∷ more) book idle none =
    let both = both_empty (next_call client asks book) (client_calls (client + 1) more book) none in
    (no_next client asks book (idle client) both.0, no_clients_left (client + 1) more book idle both.1)

-- where no client has a call
pub no_command_left : (clients : List (List Ask)) (book : Book) → AllByRecursion (λ c. is_some c.acked_at ≡ true) book.commits
    → ((coll : List ℕ) → entry_places coll book.entries ≡ committed_places coll book.entries book.commits) → client_calls 0 clients book ≡ []
    → AllByRecursion (λ asks. asks ≡ []) clients
no_command_left clients book all each none = no_clients_left 0 clients book (none_under_way book all each) none

-- ---- a drained kernel

module _ (s : State) (d : Disk) (kept : IsKept s d) (order : IsInOrder s) (up : s.down ≡ None) (drained : is_drained d.depth s ≡ true) where
  commits_acked : AllByRecursion (λ c. is_some c.acked_at ≡ true) s.book.commits
  commits_acked = all_of s.book.commits (λ i below. IfSome_then (slice_get s.book.commits i) (kept.always.book.acks i)
      (λ (c : Commit) is. is ∙ lt-ltb i s.acked (omega (arith, below, idle_acked s d kept up drained))))

  all_committed : (coll : List ℕ) → entry_places coll s.book.entries ≡ committed_places coll s.book.entries s.book.commits
  all_committed coll =
      let queued : AreQueued s.book [] =
      subst (λ (xs : List Context). AreQueued s.book (intents xs)) (idle_pending s d kept up drained) order.queued in
      queued.in_order coll ∙ append-nil (committed_places coll s.book.entries s.book.commits)

pub none_left : (p : Position) → IsKept p.state p.disk → IsInOrder p.state → p.state.down ≡ None → calls_at p ≡ []
    → AllByRecursion (λ asks. asks ≡ []) p.clients
none_left p kept order up none =
    let both = both_empty (client_calls 0 p.clients p.state.book) (map stepping (ready_list p.disk.depth p.state)) none in
    let drained = drained_of p.disk.depth p.state (no_steps (ready_list p.disk.depth p.state) both.1) in
    no_command_left p.clients p.state.book (commits_acked p.state p.disk kept order up drained) (all_committed p.state p.disk kept order up drained) both.0
