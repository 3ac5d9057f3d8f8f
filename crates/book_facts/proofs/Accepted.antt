-- How the book goes on at a submission or a read: an entry more, and where it is an accepted transaction a context more.
use Rattle.std.proofs.Common.{◌≡◌, inl, inr, ℕ, List, [], ◌∷◌, ◌++◌, length, None, Ok}
use Rattle.std.proofs.Common.{Err, refl, sym, ap, subst, ◌∙◌, append_assoc, arith}
use Rattle.run_facts.proofs.Common.{AllByRecursion, Disk, Answer, Command, Read, Entry, Objects, Change, replay, accepted_change, accepted, rows_after, width_of, Plan, Context}
use Rattle.std.specs.Prelude.{IsOk, Result}
use Rattle.object_model.specs.declared.command.Answer.TheVariants as answer
use Rattle.object_model.specs.declared.command.Command.TheVariants as ask
use Rattle.object_model.specs.declared.op.Refusal.{Refusal}
use Rattle.object_model.specs.Prelude.{ok_or, transaction_effect}
use Rattle.object_model.proofs.Replays.{replay-append}
use Rattle.store_image.specs.Prelude.{IsShape}
use Rattle.read_facts.specs.Prelude.{IsAnsweredAlike, IsNotRefused, IsHeldAt}
use Rattle.read_facts.proofs.Plain.{plain_answer}
use Rattle.store_steps.specs.Prelude.{State, context_of, entered, noted, accepted_with, IsCause, AnswersRead, memory_of, Intent, intent_of, intents, book_part}
use Rattle.run_facts.proofs.Prelude.{intents_both, all_join, all_right}
use Rattle.book_facts.specs.Prelude.{IsOfEntry, IsBookKnown, KnownOfBook}
use Rattle.book_facts.proofs.Entries.{accepted_push, none_accepted, alike_push, counts_push, change_last, of_entries_push}
use Rattle.book_facts.proofs.Answers.{has_effect, reply_accepted}
use Rattle.book_facts.proofs.Books.{batch_of}
use Rattle.book_facts.proofs.KnownPlans.{IsKnownPlan}
use Rattle.book_facts.proofs.Queues.{entry_push, queued_noted, queued_accepted}

-- ---- the objects after the transaction

after_of : (r : Result Objects Refusal) → IsOk r → (after : Objects) × (r ≡ Ok after)
after_of (Ok after) is = (after, refl)
after_of (Err refusal) is = absurd cc

-- the replay of one more accepted transaction
pub replay_one : (opening : Objects) (changes : List Change) (change : Change) (after : Objects) → transaction_effect change (replay opening changes) ≡ Ok after
    → replay opening (changes ++ change ∷ []) ≡ after
replay_one opening changes change after is = replay-append opening changes (change ∷ []) ∙ ap (λ r. ok_or r (replay opening changes)) is

pub record GoesOn (opening : Objects) (s : State) (change : Change) : Type 0 where
  pub after : Objects
  pub effect : transaction_effect change (replay opening (accepted s.book.entries)) ≡ Ok after
  pub replays : replay opening (accepted s.book.entries ++ change ∷ []) ≡ after

pub goes_on : (opening : Objects) (s : State) (change : Change) → KnownOfBook opening s → IsNotRefused s.submitted (ask.Change change)
    → GoesOn opening s change
goes_on opening s change book not_refused =
    let objects = replay opening (accepted s.book.entries) in
    let found = after_of (transaction_effect change objects) (has_effect objects change (not_refused objects book.shape)) in
    record { after = found.0; effect = found.1; replays = replay_one opening (accepted s.book.entries) change found.0 found.1 }

-- ---- it is accepted

module _ (opening : Objects) (s : State) (client line : ℕ) (change : Change) (plan : Plan)
    (not_refused : IsNotRefused s.submitted (ask.Change change)) (is : IsKnownPlan s change plan) (book : KnownOfBook opening s) where
  abbrev entry : Entry
  entry = record { client = client; line = line; command = ask.Change change; answer = answer.Accepted; acks = s.acked }

  abbrev taken : Context
  taken = context_of (length s.book.entries) change s.log plan

  abbrev one : Intent
  one = intent_of taken

  abbrev objects : Objects
  objects = replay opening (accepted s.book.entries)

  of_entry : IsOfEntry (s.book.entries ++ entry ∷ []) one
  of_entry = record { change = change; accepted = change_last s.book.entries entry; same_names = refl }

  pub book_accepts : KnownOfBook opening (accepted_with client line change plan s)
  book_accepts = subst (λ (xs : List Intent). IsBookKnown opening s.events (rows_after s.submitted plan.ops)
      (let t : State = accepted_with client line change plan s in book_part t) xs) (sym (intents_both s.pending (taken ∷ []))) (record {
        answers = alike_push opening s.book.entries entry book.answers
            (inl (sym (reply_accepted objects change (not_refused objects book.shape))));
        counts = counts_push 0 s.acked s.book.entries entry (omega arith) book.counts refl;
        commits = record {
          of_accepted = of_entries_push s.book.entries entry s.book.commits book.commits.of_accepted;
          acked_first = book.commits.acked_first;
          counted = book.commits.counted;
          by_now = book.commits.by_now;
        };
        queued = queued_accepted s.book.entries entry s.book.commits (intents s.pending) book.commits.of_accepted book.queued one change refl refl refl
            (all_right (IsOfEntry s.book.entries) (batch_of s) (intents s.pending) book.contexts);
        contexts = subst (AllByRecursion (IsOfEntry (s.book.entries ++ entry ∷ []))) (append_assoc (batch_of s) (intents s.pending) (one ∷ []))
            (all_join (IsOfEntry (s.book.entries ++ entry ∷ [])) (batch_of s ++ intents s.pending) (one ∷ [])
            (entry_push s.book.entries entry (batch_of s ++ intents s.pending) book.contexts) (of_entry, tt));
        last_committed = book.last_committed;
        shape = shape;
      })
    where
      on : GoesOn opening s change
      on = goes_on opening s change book not_refused

      objects_are : replay opening (accepted (s.book.entries ++ entry ∷ [])) ≡ on.after
      objects_are = ap (replay opening) (accepted_push s.book.entries entry) ∙ on.replays

      shape : IsShape (rows_after s.submitted plan.ops) (replay opening (accepted (s.book.entries ++ entry ∷ [])))
      shape = subst (IsShape (rows_after s.submitted plan.ops)) (sym objects_are)
          (is.makes.shape s.submitted objects on.after is.suits is.good book.shape on.effect)

-- ---- an entry that accepts nothing

module _ (opening : Objects) (s : State) (client line : ℕ) (command : Command) (a : Answer) (none : accepted_change command a ≡ None)
    (book : KnownOfBook opening s) where
  abbrev more : Entry
  more = record { client = client; line = line; command = command; answer = a; acks = s.acked }

  pub book_enters : IsAnsweredAlike (replay opening (accepted s.book.entries)) more → KnownOfBook opening (entered client line command a s)
  book_enters is = record {
    answers = alike_push opening s.book.entries more book.answers is;
    counts = counts_push 0 s.acked s.book.entries more (omega arith) book.counts refl;
    commits = record {
      of_accepted = of_entries_push s.book.entries more s.book.commits book.commits.of_accepted;
      acked_first = book.commits.acked_first;
      counted = book.commits.counted;
      by_now = book.commits.by_now;
    };
    queued = queued_noted s.book.entries more s.book.commits (intents s.pending) book.commits.of_accepted book.queued none;
    contexts = entry_push s.book.entries more (batch_of s ++ intents s.pending) book.contexts;
    last_committed = book.last_committed;
    shape = subst (λ (l : List Change). IsShape s.submitted (replay opening l)) (sym same) book.shape;
  }
    where
      same : accepted (s.book.entries ++ more ∷ []) ≡ accepted s.book.entries
      same = none_accepted s.book.entries more none

-- ---- a transaction is refused

-- its entry accepts nothing
pub cause_refuses : (change : Change) (s : State) (d : Disk) (a : Answer) → IsCause a change s d → accepted_change (ask.Change change) a ≡ None
cause_refuses change s d (answer.Refused refusal) cause = refl
cause_refuses change s d (answer.NoSpace need free) cause = refl
cause_refuses change s d (answer.Csum unit kept found) cause = refl
cause_refuses change s d (answer.MetaFull need room) cause = refl
cause_refuses change s d a cause = absurd cause

module _ (opening : Objects) (s : State) (d : Disk) (client line : ℕ) (change : Change) (book : KnownOfBook opening s) where
  abbrev noting : Answer → Entry
  noting a = record { client = client; line = line; command = ask.Change change; answer = a; acks = s.acked }

  abbrev objects_now : Objects
  objects_now = replay opening (accepted s.book.entries)

  cause_answers : (a : Answer) → IsCause a change s d → IsAnsweredAlike objects_now (noting a)
  cause_answers (answer.Refused refusal) cause = inl (sym (cause objects_now book.shape))
  cause_answers (answer.NoSpace need free) cause = inr (refl, cause.0 objects_now book.shape)
  cause_answers (answer.Csum unit kept found) cause = inr (refl, cause.not_refused objects_now book.shape)
  cause_answers (answer.MetaFull need room) cause = inr (refl, cause.0 objects_now book.shape)
  cause_answers a cause = absurd cause

  pub book_notes : (a : Answer) → IsCause a change s d → KnownOfBook opening (noted client line change a s)
  book_notes a cause = book_enters opening s client line (ask.Change change) a (cause_refuses change s d a cause) book (cause_answers a cause)

-- ---- a read is answered

pub book_answers : (opening : Objects) (s : State) (d : Disk) (client line : ℕ) (read : Read) (a : Answer) (s' : State) → KnownOfBook opening s
    → AnswersRead client line read a s d s' → KnownOfBook opening s'
book_answers opening s d client line read a s' book is =
    subst (KnownOfBook opening) (sym is.after)
    (book_enters opening s client line (ask.Read read) a refl book
    (plain_answer (width_of s.log.sup) s.submitted (replay opening (accepted s.book.entries)) book.shape (memory_of s) (IsHeldAt d) read a
    is.names is.given))
