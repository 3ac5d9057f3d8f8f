-- How steps keep the clients tied to the book.
use Rattle.std.proofs.Common.{◌≡◌, ◌≢◌, ℕ, zero, suc, ◌+◌, ◌<◌, Bool, true, false, List, [], ◌∷◌, ◌++◌, length, map, Option, Some, None}
use Rattle.std.proofs.Common.{Result, Ok, Err, OnOk, ap, ◌∙◌, sym, refl, subst, arith}
use Rattle.std.specs.Prelude.{slice_get, slice_index_or, is_some, IsSome, IfSome, ◌==◌, ◌||◌, nat_eq, nat_lt, option_and_then}
use Rattle.std.specs.List.{AllByRecursion, IsDistinct}
use Rattle.std.proofs.lemmas.Bool.{ne_eqb, eq-eqb, le-ltb}
use Rattle.block_device.specs.Prelude.{Disk, IsSound}
use Rattle.object_model.specs.Prelude.{accepted_change, change_at, is_acknowledged}
use Rattle.object_model.specs.declared.book.Book.{Book}
use Rattle.object_model.specs.declared.book.Commit.{Commit}
use Rattle.object_model.specs.declared.book.Entry.{Entry}
use Rattle.store_steps.specs.declared.step.Step.{Step}
use Rattle.store_steps.specs.declared.step.Step.TheVariants.{Take, Finish}
use Rattle.store_steps.specs.Prelude.{State, commit_of, is_ready, Does, DoesOrFails, Call, stepping, Calls, intents, acknowledged}
use Rattle.store_kernel.specs.declared.step_fail.StepFail.{StepFail}
use Rattle.run_facts.specs.Prelude.{IsKept, BookStep, book_same, book_commits, book_acks}
use Rattle.run_facts.proofs.Prelude.{does_well, book_step, step_entries, ready_by_table, finish_ready, all_left}
use Rattle.plan_proofs.proofs.PlanLaws.{plans_keep}
use Rattle.book_facts.specs.Prelude.{commit_places, places, IsInOrder}
use Rattle.book_facts.proofs.Prelude.{order_run}
use Rattle.client_runs.specs.declared.client.Client.{Client}
use Rattle.client_runs.specs.declared.clients.Clients.{Clients}
use Rattle.client_runs.specs.Prelude.{unacked, IsClient, one_less, able_of, changed, AreCounts, AreOfClients, AreTied, IsOfOne, IsAckedNext}
use Rattle.client_runs.proofs.DrawLemmas.{item_at}
use Rattle.client_runs.proofs.ClientLemmas.{length_changed, well_changed}
use Rattle.client_runs.proofs.TieLemmas.{one_if, unacked_by, acknowledged_more, acknowledged_next, not_acknowledged, counted_off, accepted_of, count_at, counts_by, counts_changed}

-- ---- the order

-- a call keeps it
pub order_one : (call : Call) (s : State) (d : Disk) (s' : State) (d' : Disk) → IsKept s d → IsInOrder s → Calls call s d s' d' → IsSound d' → IsInOrder s'
order_one call s d s' d' kept order called sound =
    order_run (call ∷ []) s s' d d' plans_keep kept order (s', (d', (called, (sound, (refl, refl)))))

-- ---- steps other than an acknowledgement

module _ (s s' : State) where
  unacked_step : (step : Step) → BookStep s s' step → (step ≡ Finish → ⊥) → (m : ℕ) → unacked m s'.book ≡ unacked m s.book
  unacked_step step (book_same e) never m = ap (λ (b : Book). unacked m b) e
  unacked_step Take (book_commits xs e) never m =
      ap (λ (b : Book). unacked m b) e
      ∙ unacked_by m s.book.commits (s.book.commits ++ map commit_of xs) 0 s.book.entries (λ p. acknowledged_more s.book.commits xs p)
  unacked_step Finish (book_acks e) never m = absurd (never refl)

  -- clients are tied to a book with the same entries, where counts are as they were
  pub tied_by : (clients : Clients) → AreTied clients s → IsInOrder s' → s'.book.entries ≡ s.book.entries
      → ((m : ℕ) → unacked m s'.book ≡ unacked m s.book) → AreTied clients s'
  tied_by clients tied order same counts = record {
    clients_are = tied.clients_are;
    order = order;
    counts = counts_by 0 clients.all.items s.book s'.book counts tied.counts;
    no_other = subst (λ (es : List Entry). AreOfClients (length clients.all.items) es) (sym same) tied.no_other;
  }

  pub step_tied : (clients : Clients) (d d' : Disk) (step : Step) → IsKept s d → is_ready step d.depth s ≡ true → AreTied clients s
      → Does step s d s' d' → IsSound d' → (step ≡ Finish → ⊥) → AreTied clients s'
  step_tied clients d d' step kept ready tied does sound never =
      let well : DoesOrFails step s d s' d' = does_well step s d s' d' does in
      let book : BookStep s s' step = book_step step s d s' d' well in
      tied_by clients tied (order_one (stepping step) s d s' d' kept tied.order (ready, well) sound)
      (step_entries step s s' book) (unacked_step step book never)

  pub step_tied_ok : (r : Result (Unit {0}) StepFail) (clients : Clients) (d d' : Disk) (step : Step) → IsKept s d → is_ready step d.depth s ≡ true
      → AreTied clients s → OnOk r (Does step s d s' d') → IsSound d' → (step ≡ Finish → ⊥) → OnOk r (AreTied clients s')
  step_tied_ok (Ok u) clients d d' step kept ready tied does sound never =
      step_tied clients d d' step kept ready tied does sound never
  step_tied_ok (Err e) clients d d' step kept ready tied does sound never = tt

-- ---- an acknowledgement

distinct_front : (xs ys : List ℕ) → IsDistinct nat_eq (xs ++ ys) → IsDistinct nat_eq xs
unfolding IsDistinct
distinct_front [] ys is = tt
distinct_front (x ∷ xs) ys is = (all_left (λ y. nat_eq x y ≡ false) xs ys is.0, distinct_front xs ys is.1)

pub at_item : {A : Type 0} (P : A → Type 0) (k : ℕ) (xs : List A) (x : A) → slice_get xs k ≡ Some x → AllByRecursion P xs → P x
at_item P k [] x at all = absurd cc
at_item {A} P zero (y ∷ ys) x at all = let same : y ≡ x = cc in subst P same all.0
at_item P (suc k) (y ∷ ys) x at all = at_item P k ys x at all.1

-- where there is a transaction, there is its entry
there_of : (es : List Entry) (place : ℕ) (o : Option Entry) → slice_get es place ≡ o → IsSome (option_and_then (λ e. accepted_change e.command e.answer) o)
    → (e : Entry) × (slice_get es place ≡ Some e) × (is_some (accepted_change e.command e.answer) ≡ true)
there_of es place None at some = absurd cc
there_of es place (Some e) at some = (e, at, some)

-- what is known of the next acknowledgement
pub record AcksNext (s : State) (commit : Commit) : Type 0 where
  pub next : slice_get s.book.commits s.acked ≡ Some commit
  pub entry : Entry
  pub there : slice_get s.book.entries commit.place ≡ Some entry
  pub accepted : is_some (accepted_change entry.command entry.answer) ≡ true

pub acks_next : (s : State) (commit : Commit) → IsInOrder s → slice_get s.book.commits s.acked ≡ Some commit → AcksNext s commit
acks_next s commit order next =
    let some : IsSome (change_at s.book.entries commit.place) =
    at_item (λ c. IsSome (change_at s.book.entries c.place)) s.acked s.book.commits commit next order.of_accepted in
    let found = there_of s.book.entries commit.place (slice_get s.book.entries commit.place) refl some in
    record { next = next; entry = found.0; there = found.1; accepted = found.2 }

pub next_within : (s : State) (d : Disk) → IsKept s d → s.down ≡ None → is_ready Finish d.depth s ≡ true → s.acked < length s.book.commits
next_within s d kept up ready = (finish_ready s d kept.always (ready_by_table s d.depth Finish up ready)).0

pub there_within : {A : Type 0} (xs : List A) (k : ℕ) (x : A) → slice_get xs k ≡ Some x → k < length xs
there_within [] k x at = absurd cc
there_within (y ∷ ys) zero x at = omega arith
there_within (y ∷ ys) (suc k) x at = let below = there_within ys k x at in omega (arith, below)

pub acked_next : (s : State) (commit d : Commit) (entry e : Entry) (client : ℕ) → IsInOrder s → s.acked < length s.book.commits
    → commit ≡ slice_index_or s.book.commits s.acked d → commit.place < length s.book.entries → entry ≡ slice_index_or s.book.entries commit.place e
    → client ≡ entry.client → IsAckedNext client s
acked_next s commit d entry e client order within is there entry_is client_is = record {
  commit = commit;
  next = item_at s.acked s.book.commits d within ∙ ap (λ (c : Commit). Some c) (sym is);
  entry = entry;
  there = item_at commit.place s.book.entries e there ∙ ap (λ (x : Entry). Some x) (sym entry_is);
  is = client_is;
}

-- its client has one transaction less under way, and no other has
pub record CountsOff (client : ℕ) (s s' : State) : Type 0 where
  pub one : unacked client s'.book + 1 ≡ unacked client s.book
  pub others : (m : ℕ) → m ≢ client → unacked m s'.book ≡ unacked m s.book
  pub entries : s'.book.entries ≡ s.book.entries

module _ (client : ℕ) (s : State) (d : Disk) (s' : State) (kept : IsKept s d) (order : IsInOrder s) (next : IsAckedNext client s)
    (book : s'.book ≡ record s.book { commits = acknowledged s.events s.book.commits }) where
  abbrev commits : List Commit
  commits = s.book.commits

  abbrev after : List Commit
  after = acknowledged s.events commits

  turns : (q : ℕ) → is_acknowledged after q ≡ (next.commit.place == q) || is_acknowledged commits q
  turns q = acknowledged_next s.events s.acked q commits next.commit next.next kept.always.book.acks

  not_yet : is_acknowledged commits next.commit.place ≡ false
  not_yet = not_acknowledged s.acked commits next.commit next.next
      (distinct_front (commit_places commits) (places (intents s.pending)) order.queued.once)
      (subst (λ (o : Option Commit). IfSome o (λ c. is_some c.acked_at ≡ nat_lt s.acked s.acked)) next.next (kept.always.book.acks s.acked)
      ∙ le-ltb s.acked s.acked (omega arith))

  accepted : is_some (accepted_change next.entry.command next.entry.answer) ≡ true
  accepted =
      let found = acks_next s next.commit order next.next in
      let same : found.entry ≡ next.entry = cc in
      subst (λ (e : Entry). is_some (accepted_change e.command e.answer) ≡ true) same found.accepted

  count_off : (m : ℕ) → unacked m s'.book + one_if (next.entry.client == m) ≡ unacked m s.book
  count_off m =
      ap (λ (b : Book). unacked m b + one_if (next.entry.client == m)) book
      ∙ (ap (λ (t : Bool). unacked m (record s.book { commits = after }) + one_if t) (sym (accepted_of m next.entry accepted))
      ∙ counted_off m next.commit.place commits after turns not_yet 0 next.commit.place s.book.entries next.entry next.there (omega arith))

  pub counts_off : CountsOff client s s'
  counts_off = record {
    one =
        let one : one_if (next.entry.client == client) ≡ 1 = ap one_if (eq-eqb next.entry.client client (sym next.is)) in
        omega (arith, count_off client, one);
    others = λ m other.
        let none : one_if (next.entry.client == m) ≡ 0 = ap one_if (ne_eqb next.entry.client m (λ e. other (sym e ∙ sym next.is))) in
        omega (arith, count_off m, none);
    entries = ap (λ (b : Book). b.entries) book;
  }

  pub next_below : (count : ℕ) → AreOfClients count s.book.entries → client < count
  next_below count no_other = subst (λ (n : ℕ). n < count) (sym next.is) (at_item (λ e. e.client < count) next.commit.place s.book.entries next.entry next.there no_other)

-- the client is one of which some are under way
pub some_under_way : (client : ℕ) (s : State) (d : Disk) (s' : State) (d' : Disk) (clients : Clients) → IsKept s d → AreTied clients s
    → IsAckedNext client s → Does Finish s d s' d' → IsOfOne (λ c. 0 < c.unacked) client clients.all.items
some_under_way client s d s' d' clients kept tied next does =
    let book = ap (λ (z : State). z.book) does.after in
    let off : CountsOff client s s' = counts_off client s d s' kept tied.order next book in
    count_at (λ c. 0 < c.unacked) 0 client clients.all.items s.book (next_below client s d s' kept tied.order next book (length clients.all.items) tied.no_other)
    tied.counts (λ c is. omega (arith, is, ap (λ (n : ℕ). unacked n s.book) {x = 0 + client} {y = client} (omega arith), off.one))

pub finish_tied : (client : ℕ) (s : State) (d : Disk) (s' : State) (d' : Disk) (clients clients' : Clients) → IsKept s d
    → is_ready Finish d.depth s ≡ true → AreTied clients s → IsAckedNext client s → Does Finish s d s' d' → IsSound d'
    → clients'.all.items ≡ changed client one_less clients.all.items → clients'.able.items ≡ able_of 0 clients'.all.items → AreTied clients' s'
finish_tied client s d s' d' clients clients' kept ready tied next does sound all able =
    let book = ap (λ (z : State). z.book) does.after in
    let off : CountsOff client s s' = counts_off client s d s' kept tied.order next book in
    let old : List Client = clients.all.items in
    let new : List Client = changed client one_less old in
    let many : length clients'.all.items ≡ length old = ap (λ (l : List Client). length l) all ∙ length_changed client one_less old in
    record {
      clients_are = record {
        few = omega (arith, many, tied.clients_are.few);
        well = subst (AllByRecursion IsClient) (sym all) (well_changed IsClient client one_less old (λ c well. record { at_command = well.at_command; size = well.size }) tied.clients_are.well);
        able = able;
      };
      order = order_one (stepping Finish) s d s' d' kept tied.order (ready, does) sound;
      counts = subst (λ (l : List Client). AreCounts 0 l s'.book) (sym all)
          (counts_changed client s.book s'.book off.others one_less 0 client old (omega arith) (λ c is. omega (arith, is, off.one)) tied.counts);
      no_other = subst (λ (n : ℕ). AreOfClients n s'.book.entries) (sym many)
          (subst (λ (es : List Entry). AreOfClients (length old) es) (sym off.entries) tied.no_other);
    }
