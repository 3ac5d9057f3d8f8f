-- Each call of the kernel keeps what is known of the book, and so does a run: by what calls make of rows and book.
use Rattle.std.proofs.Common.{◌≡◌, inl, inr, ◌+◌, ◌<◌, ◌++◌, length, List, [], ◌∷◌, ℕ, Option, Some, None, refl, sym, ap, subst, ◌∙◌, arith, map}
use Rattle.run_facts.proofs.Common.{option_map_or, Ticket, Disk, Objects, Change, PlansKeep, IsKnown, Ascends}
use Rattle.std.proofs.lemmas.List.{append_cancel_left}
use Rattle.object_model.specs.declared.command.Command.TheVariants as ask
use Rattle.read_facts.specs.Prelude.{IsLegalButBytes}
use Rattle.store_steps.specs.declared.step.Step.TheVariants as step
use Rattle.store_steps.specs.Prelude.{Batch, State, DoesTake, check_begun, switched, taken_up, committed_batch, finished, Accepts, Call, Calls, IsRun, intents, uncommitted, RowsPart, BookPart, rows_part, book_part, Touch, events_of, RowsGo, BookGoes, Replies, refuses, reads, IsCaused, Footprint}
use Rattle.store_steps.specs.RowsGo as rows
use Rattle.store_steps.specs.BookGoes as book
use Rattle.run_facts.specs.Prelude.{IsKept}
use Rattle.run_facts.proofs.Prelude.{ready_by_table, take_none, finish_ready, intents_both, was_up, GoesDown, down_call, footprint_of, kept_call}
use Rattle.book_facts.specs.Prelude.{KnownOfBook, IsInOrder}
use Rattle.book_facts.proofs.Books.{KeepBook, batch_of, book_stays, book_takes, book_commits, book_finishes, known_legal}
use Rattle.book_facts.proofs.Order.{order_stays, order_takes, order_commits, order_finishes, order_accepts, order_enters}
use Rattle.book_facts.proofs.KnownPlans.{known_plan}
use Rattle.book_facts.proofs.Accepted.{book_accepts, book_notes, book_answers, cause_refuses}

-- ---- calls that leave rows and book

-- the parts are the same
parts_keep : (s s' : State) → rows_part s' ≡ rows_part s → book_part s' ≡ book_part s → (more : ℕ) → s'.events ≡ s.events + more → KeepBook s s'
parts_keep s s' same_rows same_book more events = record {
  book = same_book;
  waiting = append_cancel_left (batch_of s) (intents s'.pending) (intents s.pending)
      (ap (λ (b : BookPart). b.batch ++ intents s'.pending) (sym same_book) ∙ both s' ∙ ap (λ (p : RowsPart). p.intents) same_rows ∙ sym (both s));
  submitted = ap (λ (p : RowsPart). p.submitted) same_rows;
  events = omega (arith, events);
}
  where
    both : (t : State) → batch_of t ++ intents t.pending ≡ intents (uncommitted t)
    both t = sym (intents_both (option_map_or (λ (b : Batch). b.contexts) t.batch []) t.pending)

-- one that leaves the kernel down takes an end, or nothing happens
down_keeps : (s : State) (d : Disk) (s' : State) (d' : Disk) → GoesDown s d s' d' → KeepBook s s'
down_keeps s d s' d' (inl end) = subst (KeepBook s) (sym end.after)
    (record { book = refl; waiting = refl; submitted = refl; events = omega arith })
down_keeps s d s' d' (inr still) = subst (KeepBook s) (sym still.state)
    (record { book = refl; waiting = refl; submitted = refl; events = omega arith })

-- ---- a fact of the book and of what is under way

-- it is kept where these stay, and wherever a call changes them
record IsBookFact (K : State → Type 0) : Type 0 where
  stays : (s s' : State) → KeepBook s s' → K s → K s'
  accepts : (s : State) (d : Disk) (s' : State) (client line : ℕ) (change : Change) → PlansKeep → IsKept s d → IsKnown change.ops
      → Accepts client line change s d s' → K s → K s'
  replies : (s : State) (d : Disk) (s' : State) → Replies s d s' → K s → K s'
  takes : (s : State) → s.batch ≡ None → Ascends (map (λ z. z.place) s.pending) → K s → K (taken_up s)
  commits : (s : State) (b : Batch) → K s → K (committed_batch b s)
  finishes : (s : State) → s.acked < length s.book.commits → K s → K (finished s)

module _ (K : State → Type 0) (fact : IsBookFact K) where
  -- ---- a call that leaves the kernel up

  module _ (s : State) (d : Disk) (s' : State) (d' : Disk) (plans : PlansKeep) (kept : IsKept s d) (up : s.down ≡ None) (known : K s) where
    -- a state with the same book and the same transactions
    rest_stays : (u : State) → book_part u ≡ book_part s → intents u.pending ≡ intents s.pending → u.submitted ≡ s.submitted → u.events ≡ s.events → K u
    rest_stays u same waiting submitted events =
        fact.stays s u (record { book = same; waiting = waiting; submitted = submitted; events = omega (arith, events) }) known

    parts_go : (t : Touch) → s'.events ≡ s.events + events_of t → (go : RowsGo (rows_part s) (rows_part s'))
        → (b : BookGoes s.events t (book_part s) (book_part s')) → IsCaused s d s' d' go b → K s'
    parts_go t events (rows.same is) (book.same same) caused = fact.stays s s' (parts_keep s s' is same (events_of t) events) known
    parts_go t events (rows.same is) (book.enters e entered) caused = fact.replies s d s' caused known
    parts_go t events (rows.same is) (book.acknowledges acked) caused = subst K (sym caused.does.after)
        (fact.finishes s (finish_ready s d kept.always (ready_by_table s d.depth step.Finish up caused.ready)).0 known)
    parts_go t events (rows.reorders later order is) (book.commits xs none opened) caused =
        of_take caused.does
      where
        of_take : DoesTake s d s' d' → K s'
        of_take (inl batch) = subst K (sym batch.after)
            (fact.takes s (take_none s d.depth (ready_by_table s d.depth step.Take up caused.ready)).0 (kept.up up).flights.places.ascend known)
        of_take (inr check) = subst K (sym check.after) (rest_stays (check_begun s) refl refl refl refl)
    parts_go t events (rows.switches number limits is) (book.same same) caused = subst K (sym caused.does.after) (rest_stays (switched s) refl refl refl refl)
    parts_go t events (rows.joins x more is) (book.enters e entered) caused =
        fact.accepts s d s' caused.client caused.line caused.change plans kept caused.known caused.accepts known
    parts_go t events (rows.applies number front back both fits is) (book.applies count all counted) caused =
        subst K (sym caused.does.after) (fact.commits s caused.does.batch known)
    parts_go t events go b caused = absurd caused

  -- ---- each call, and runs

  fact_call : (call : Call) (s s' : State) (d d' : Disk) → PlansKeep → IsKept s d → K s → Calls call s d s' d' → K s'
  fact_call call s s' d d' plans kept known made = of_down s'.down refl
    where
      of_down : (o : Option Ticket) → s'.down ≡ o → K s'
      of_down None up =
          let f : Footprint s d s' d' = footprint_of call s d s' d' kept up made in
          parts_go s d s' d' plans kept (was_up call s d s' d' made up) known f.touch f.counted f.rows f.book f.caused
      of_down (Some first) down = fact.stays s s' (down_keeps s d s' d' (down_call call s d s' d' first kept down made)) known

  fact_run : (calls : List Call) (s s' : State) (d d' : Disk) → PlansKeep → IsKept s d → K s → IsRun s d calls s' d' → K s'
  fact_run [] s s' d d' plans kept known run = subst K (sym run.0) known
  fact_run (call ∷ calls) s s' d d' plans kept known run =
      let t : State = run.0 in
      let e : Disk = run.1.0 in
      fact_run calls t s' e d' plans (kept_call call s t d e plans kept run.1.1.0 run.1.1.1.0) (fact_call call s t d e plans kept known run.1.1.0) run.1.1.1.1

-- ---- what is known of the book

book_replies : (opening : Objects) (s : State) (d : Disk) (s' : State) → Replies s d s' → KnownOfBook opening s → KnownOfBook opening s'
book_replies opening s d s' (refuses client line change a is) known =
    subst (KnownOfBook opening) (sym is.after) (book_notes opening s d client line change known a is.cause)
book_replies opening s d s' (reads client line read a is) known = book_answers opening s d client line read a s' known is

book_fact : (opening : Objects) → IsBookFact (KnownOfBook opening)
book_fact opening = record {
  stays = book_stays opening;
  accepts = λ s d s' client line change plans kept may does known. subst (KnownOfBook opening) (sym does.after)
      (book_accepts opening s client line change does.plan does.not_refused (known_plan plans s d client line change s' kept may does) known);
  replies = book_replies opening;
  takes = book_takes opening;
  commits = book_commits opening;
  finishes = book_finishes opening;
}

pub book_call : (opening : Objects) (call : Call) (s s' : State) (d d' : Disk) → PlansKeep → IsKept s d → KnownOfBook opening s → Calls call s d s' d'
    → KnownOfBook opening s'
book_call opening = fact_call (KnownOfBook opening) (book_fact opening)

pub book_run : (opening : Objects) (calls : List Call) (s s' : State) (d d' : Disk) → PlansKeep → IsKept s d → KnownOfBook opening s → IsRun s d calls s' d'
    → KnownOfBook opening s'
book_run opening = fact_run (KnownOfBook opening) (book_fact opening)

pub legal_run : (opening : Objects) (calls : List Call) (s s' : State) (d d' : Disk) → PlansKeep → IsKept s d → KnownOfBook opening s → IsRun s d calls s' d'
    → IsLegalButBytes opening s'.book
legal_run opening calls s s' d d' plans kept known run = known_legal opening s' (book_run opening calls s s' d d' plans kept known run)

-- ---- of the order alone

order_replies : (s : State) (d : Disk) (s' : State) → Replies s d s' → IsInOrder s → IsInOrder s'
order_replies s d s' (refuses client line change a is) known = subst IsInOrder (sym is.after)
    (order_enters s client line (ask.Change change) a (cause_refuses change s d a is.cause) known)
order_replies s d s' (reads client line read a is) known = subst IsInOrder (sym is.after) (order_enters s client line (ask.Read read) a refl known)

order_fact : IsBookFact IsInOrder
order_fact = record {
  stays = order_stays;
  accepts = λ s d s' client line change plans kept may does known. subst IsInOrder (sym does.after) (order_accepts s client line change does.plan known);
  replies = order_replies;
  takes = order_takes;
  commits = order_commits;
  finishes = λ s below known. order_finishes s known;
}

pub order_run : (calls : List Call) (s s' : State) (d d' : Disk) → PlansKeep → IsKept s d → IsInOrder s → IsRun s d calls s' d' → IsInOrder s'
order_run = fact_run IsInOrder order_fact
