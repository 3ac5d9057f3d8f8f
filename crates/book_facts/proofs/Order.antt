-- How each call keeps what is known of the order alone.
use Rattle.std.proofs.Common.{◌≡◌, ℕ, List, [], ◌∷◌, ◌++◌, length, None, refl, sym, ap, subst, append_assoc, map}
use Rattle.run_facts.proofs.Common.{AllByRecursion, Entry, Answer, Command, Change, accepted_change, change_at, Plan, Space, Context, Ascends}
use Rattle.std.specs.Prelude.{is_some, IsSome}
use Rattle.object_model.specs.declared.command.Answer.TheVariants as answer
use Rattle.object_model.specs.declared.command.Command.TheVariants as ask
use Rattle.store_steps.specs.Prelude.{Batch, State, commit_of, taken_up, acknowledged, finished, committed_batch, context_of, entered, accepted_with, Found, opened, Intent, intent_of, intents, BookPart, book_part}
use Rattle.run_facts.proofs.Prelude.{intents_both, all_join, all_right}
use Rattle.book_facts.specs.Prelude.{IsOfEntry, KnownOfOrder, IsInOrder}
use Rattle.book_facts.proofs.Entries.{change_last, of_entries_push}
use Rattle.book_facts.proofs.Commits.{all_push, places_acknowledged, AreAtPlaces, at_places, of_places}
use Rattle.book_facts.proofs.Queues.{entry_push, queued_noted, queued_accepted, queued_places}
use Rattle.book_facts.proofs.Books.{KeepBook, batch_of, nothing_twice, IsKeptByNext, kept_by_take, all_taken, queues_taken}

-- at the start
pub order_opened : (f : Found) (space : Space) (next events : ℕ) → IsInOrder (opened f space next events)
order_opened f space next events = record { of_accepted = tt; queued = record { once = nothing_twice; in_order = λ coll. refl }; contexts = tt }

-- a call that changes neither the book nor what is under way
pub order_stays : (s s' : State) → KeepBook s s' → IsInOrder s → IsInOrder s'
order_stays s s' keep known =
    subst (λ (b : BookPart). KnownOfOrder b (intents s'.pending)) (sym keep.book) (subst (KnownOfOrder (book_part s)) (sym keep.waiting) known)

-- ---- a batch is opened

order_next : IsKeptByNext KnownOfOrder
order_next p x xs at known =
    let both = all_taken (IsOfEntry p.book.entries) p.batch at.front x at.back known.contexts in
    record {
      of_accepted = all_push (λ c. IsSome (change_at p.book.entries c.place)) p.book.commits (commit_of x) known.of_accepted
          (ap is_some (both.0).accepted);
      queued = queues_taken p.book.entries p.book.commits x xs at both.0 known.queued;
      contexts = both.1;
    }

pub order_takes : (s : State) → s.batch ≡ None → Ascends (map (λ z. z.place) s.pending) → IsInOrder s → IsInOrder (taken_up s)
order_takes = kept_by_take KnownOfOrder order_next

-- ---- it is committed, and a commit is acknowledged

pub order_commits : (s : State) (b : Batch) → IsInOrder s → IsInOrder (committed_batch b s)
order_commits s b known = record {
  of_accepted = known.of_accepted;
  queued = known.queued;
  contexts = all_right (IsOfEntry s.book.entries) (batch_of s) (intents s.pending) known.contexts;
}

pub order_finishes : (s : State) → IsInOrder s → IsInOrder (finished s)
order_finishes s known = record {
  of_accepted = of_places s.book.entries (acknowledged s.events s.book.commits)
      (subst (λ (ps : List ℕ). AreAtPlaces s.book.entries ps) (sym (places_acknowledged s.events s.book.commits))
      (at_places s.book.entries s.book.commits known.of_accepted));
  queued = queued_places s.book.entries s.book.commits (acknowledged s.events s.book.commits) (intents s.pending)
      (places_acknowledged s.events s.book.commits) known.queued;
  contexts = known.contexts;
}

-- ---- a submission or a read

pub order_accepts : (s : State) (client line : ℕ) (change : Change) (plan : Plan) → IsInOrder s → IsInOrder (accepted_with client line change plan s)
order_accepts s client line change plan known =
    let entry : Entry = record { client = client; line = line; command = ask.Change change; answer = answer.Accepted; acks = s.acked } in
    let es : List Entry = s.book.entries in
    let x : Context = context_of (length es) change s.log plan in
    let one : Intent = intent_of x in
    let of_entry : IsOfEntry (es ++ entry ∷ []) one = record { change = change; accepted = change_last es entry; same_names = refl } in
    subst (λ (xs : List Intent). KnownOfOrder (let t : State = accepted_with client line change plan s in book_part t) xs)
    (sym (intents_both s.pending (x ∷ []))) (record {
      of_accepted = of_entries_push es entry s.book.commits known.of_accepted;
      queued = queued_accepted es entry s.book.commits (intents s.pending) known.of_accepted known.queued one change refl refl refl
          (all_right (IsOfEntry es) (batch_of s) (intents s.pending) known.contexts);
      contexts = subst (AllByRecursion (IsOfEntry (es ++ entry ∷ []))) (append_assoc (batch_of s) (intents s.pending) (one ∷ []))
          (all_join (IsOfEntry (es ++ entry ∷ [])) (batch_of s ++ intents s.pending) (one ∷ [])
          (entry_push es entry (batch_of s ++ intents s.pending) known.contexts) (of_entry, tt));
    })

-- an entry that accepts nothing
pub order_enters : (s : State) (client line : ℕ) (command : Command) (a : Answer) → accepted_change command a ≡ None → IsInOrder s
    → IsInOrder (entered client line command a s)
order_enters s client line command a none known =
    let more : Entry = record { client = client; line = line; command = command; answer = a; acks = s.acked } in
    record {
      of_accepted = of_entries_push s.book.entries more s.book.commits known.of_accepted;
      queued = queued_noted s.book.entries more s.book.commits (intents s.pending) known.of_accepted known.queued none;
      contexts = entry_push s.book.entries more (batch_of s ++ intents s.pending) known.contexts;
    }
