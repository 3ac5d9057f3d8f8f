-- What a submission in flight tells of the open batch and of a switch, and what one that is ready to be committed is.
use Rattle.std.proofs.Common.{◌≡◌, inl, inr, ℕ, ◌+◌, ◌<◌, ◌≤◌, Bool, true, cond, ◌==◌, List, [], ◌∷◌, length, Option, Some, None, refl, sym, ap, subst, ◌∙◌, arith}
use Rattle.flight_facts.proofs.Common.{AllByRecursion, option_map_or, eq-eqb, Flight, Ticket, FlushState, Flying, Job, Begun, Checking, is_flushed}
use Rattle.log_facts.specs.Prelude.{not_sent, sent, flushed}
use Rattle.store_steps.specs.declared.flight.FlushState.TheVariants as flush
use Rattle.store_steps.specs.declared.flight.Job.TheVariants as job
use Rattle.store_steps.specs.declared.step.Step.TheVariants as step
use Rattle.store_steps.specs.declared.flight.Switching.{Switching}
use Rattle.store_steps.specs.Prelude.{Batch, State, batch_ops, is_not_sent, pieces_of, check_pieces, is_ready_up, flush_of, second_flush}
use Rattle.flight_facts.specs.Prelude.{Stage, by_one, by_pieces, IsUnsent, IsEnded, AreInTurn, batch_pieces, batch_stages, IsBatchOpen, IsBatchFar, switch_stages, IsSwitchFar, units_of_job, is_of_batch, is_of_switch, flying_for, IsPartGiven, IsAllGiven, TouchesGiven, IsWriteOf, IsOfJob, AreOfJobs, FlightsMatch}
use Rattle.flight_facts.proofs.Pieces.{some_pieces}
use Rattle.flight_facts.proofs.Lists.{StandsIn, any_stands, all_at}
use Rattle.flight_facts.proofs.Landing.{part_with, IsLeftOut, IsFlown, jobs_found}
use Rattle.flight_facts.proofs.Stages.{no_front, ended_ahead, unsent_behind, unsent_is, EndsIn, ends, not_sent_is, ended_flushed, unless_begun}
use Rattle.flight_facts.proofs.Matching.{IsMadeFar, made_far, open_far, begun_far, synced_far}
use Rattle.flight_facts.proofs.Switching.{IsSwitchOpen, switch_open, check_stage}
use Rattle.flight_facts.proofs.Reaping.{left_units}
use Rattle.flight_facts.proofs.MatchingSteps.{test_of, some_is, record_tests, pieces_left, sync_tests, check_switches, runs_left_over}

-- A flush is the batch's, or the switch's; a piece is of the record or of the checkpoint that is being written, and wasn't counted as written yet; a
-- data write is of a context that waits, and so many of its units were given that weren't counted as done.
abbrev pub IsOf : State → ℕ → Job → Type 0
IsOf s place job.DataFlush = (b : Batch) × (s.batch ≡ Some b) × (flush_of b.first ≡ sent place)
IsOf s place job.RecordFlush = (b : Batch) × (s.batch ≡ Some b) × (flush_of b.second ≡ sent place) × ((r : Begun) × (s.log.begun ≡ Some r))
IsOf s place job.Record = (r : Begun) × (s.log.begun ≡ Some r) × (r.written < r.given)
IsOf s place job.Check = (c : Checking) × (s.log.check ≡ Some c) × (c.written < c.given)
IsOf s place job.CheckFlush = (c : Checking) × (s.log.check ≡ Some c)
    × ((w : Switching) × (s.switching ≡ Some w) × (flush_of w.flush ≡ sent place) × (w.slot ≡ flush.NotSent))
IsOf s place job.Slot = (w : Switching) × (s.switching ≡ Some w) × ((ticket : Ticket) × (w.slot ≡ flush.Sent ticket))
IsOf s place job.SlotFlush = (c : Checking) × (s.log.check ≡ Some c)
    × ((w : Switching) × (s.switching ≡ Some w) × (flush_of w.slot_flush ≡ sent place) × (w.slot ≡ flush.Flushed))
IsOf s place (job.Data of count) = StandsIn (λ x. (x.place ≡ of) × (x.done + count ≤ x.given)) s.pending

-- the record of a batch
abbrev record_stage : ℕ → Batch → Option Begun → Stage
record_stage number b o = by_pieces job.Record (batch_pieces number b) (option_map_or (λ r. r.given) o 0) (option_map_or (λ r. r.written) o 0)

-- once it has ended it is made
ended_made : (number : ℕ) (b : Batch) (o : Option Begun) → IsEnded (record_stage number b o) → (r : Begun) × (o ≡ Some r)
ended_made number b None ended = absurd (never (batch_pieces number b) ended.0 (some_pieces number (batch_ops b)))
  where
    never : (pieces : ℕ) → 0 ≡ pieces → 0 < pieces → ⊥
    never pieces none some = omega (arith, none, some)
ended_made number b (Some r) ended = (r, refl)

given_made : (o : Option Begun) → option_map_or (λ r. r.written) o 0 < option_map_or (λ r. r.given) o 0
    → (r : Begun) × (o ≡ Some r) × (r.written < r.given)
given_made None less = absurd (omega (arith, less))
given_made (Some r) less = (r, refl, less)

-- what is left out of what flies tells it
module _ (s : State) (flights : List Flight) (ticket : Ticket) (out : IsLeftOut ticket s.flying) where
  abbrev Tells : Job → Type 0
  Tells j = IsOf s ticket.place j

  sent_is : (state : FlushState) → state ≡ flush.Sent out.flight.ticket → flush_of state ≡ sent ticket.place
  sent_is state is = ap flush_of is ∙ ap sent out.its

  batch_tells : (b : Batch) → s.batch ≡ Some b → IsBatchOpen s.log.sup.half s.log.tail s.log.number b s.log.begun (flying_for is_of_batch s.flying)
      → EndsIn (batch_stages (batch_pieces s.log.number b) b s.log.begun) out.flight (λ later. Unit {0}) → Tells out.flight.job
  batch_tells b is o (inl end) = subst Tells (sym end.0) (b, is, sent_is b.first end.1)
  batch_tells b is o (inr (inl end)) = subst Tells (sym end.0) (given_made s.log.begun end.1)
  batch_tells b is o (inr (inr (inl end))) =
      let piece : Stage = record_stage s.log.number b s.log.begun in
      let ahead = ended_ahead (by_one job.DataFlush b.first ∷ piece ∷ []) (by_one job.RecordFlush b.second) [] (flying_for is_of_batch s.flying)
      (λ unsent. never (subst (λ (f : FlushState). IsUnsent (by_one job.RecordFlush f)) end.1 unsent)) o.far in
      subst Tells (sym end.0) (b, is, sent_is b.second end.1, ended_made s.log.number b s.log.begun ahead.1.0)
    where
      never : IsUnsent (by_one job.RecordFlush (flush.Sent out.flight.ticket)) → ⊥
      never unsent = unsent
  batch_tells b is o (inr (inr (inr never))) = absurd never

  switch_tells : (c : Checking) (w : Switching) → s.log.check ≡ Some c → s.switching ≡ Some w
      → AreInTurn (switch_stages (length (check_pieces s.log)) c w) (flying_for is_of_switch s.flying)
      → EndsIn (switch_stages (length (check_pieces s.log)) c w) out.flight (λ later. Unit {0}) → Tells out.flight.job
  switch_tells c w is has far (inl end) = subst Tells (sym end.0) (c, is, end.1)
  switch_tells c w is has far (inr (inl end)) =
      let unsent = unsent_behind (check_stage s.log c ∷ []) (by_one job.CheckFlush w.flush) (by_one job.Slot w.slot ∷ by_one job.SlotFlush w.slot_flush ∷ [])
      (flying_for is_of_switch s.flying) (λ ended. never (subst (λ (f : FlushState). IsEnded (by_one job.CheckFlush f)) end.1 ended)) far in
      subst Tells (sym end.0) (c, is, (w, has, sent_is w.flush end.1, unsent_is job.Slot w.slot unsent.0))
    where
      never : IsEnded (by_one job.CheckFlush (flush.Sent out.flight.ticket)) → ⊥
      never ended = ended
  switch_tells c w is has far (inr (inr (inl end))) = subst Tells (sym end.0) (w, has, (out.flight.ticket, end.1))
  switch_tells c w is has far (inr (inr (inr (inl end)))) =
      let ahead = ended_ahead (check_stage s.log c ∷ by_one job.CheckFlush w.flush ∷ by_one job.Slot w.slot ∷ []) (by_one job.SlotFlush w.slot_flush) []
      (flying_for is_of_switch s.flying) (λ unsent. never (subst (λ (f : FlushState). IsUnsent (by_one job.SlotFlush f)) end.1 unsent)) far in
      subst Tells (sym end.0) (c, is, (w, has, sent_is w.slot_flush end.1, ended_flushed job.Slot w.slot ahead.1.1.0))
    where
      never : IsUnsent (by_one job.SlotFlush (flush.Sent out.flight.ticket)) → ⊥
      never unsent = unsent
  switch_tells c w is has far (inr (inr (inr (inr never)))) = absurd never

  data_tells : (place count : ℕ) → out.flight.job ≡ job.Data place count → FlightsMatch s flights
      → StandsIn (λ x. (x.place ≡ place) × (x.done + count ≤ x.given)) s.pending
  data_tells place count is m =
      let flown : IsFlown s.log s.pending out.flight =
      jobs_found s.log s.pending out.front out.flight out.back flights (subst (λ (fs : List Flying). AreOfJobs s.log s.pending fs flights) out.is m.touches) in
      let of : IsWriteOf s.pending place count flown.flight = subst (λ (j : Job). IsOfJob s.log s.pending j flown.flight) is flown.of in
      let at : StandsIn (λ z. (z.place ≡ place) × TouchesGiven z flown.flight) s.pending = any_stands (λ z. (z.place ≡ place) × TouchesGiven z flown.flight) s.pending of.of in
      let part : IsPartGiven s.flying at.item = all_at (IsPartGiven s.flying) at.front at.item at.back s.pending at.is m.waiting in
      record {
        front = at.front;
        item = at.item;
        back = at.back;
        is = at.is;
        holds = (
          at.holds.0,
          within (at.item).done count (at.item).given _ _ _ part.counted (left_units (at.item).place ticket s.flying out)
              (ap (λ (j : Job). units_of_job (at.item).place j) is ∙ ap (λ (b : Bool). cond b count 0) (eq-eqb place (at.item).place (sym at.holds.0))),
        );
      }
    where
      within : (done count given all left one : ℕ) → done + all ≡ given → left + one ≡ all → one ≡ count → done + count ≤ given
      within done count given all left one counted is same = omega (arith, counted, is, same)

  pub found_tells : FlightsMatch s flights → Tells out.flight.job
  found_tells m = of_job out.flight.job refl
    where
      of_batch : is_of_batch out.flight.job ≡ true → Tells out.flight.job
      of_batch own = of_open s.batch refl m.batch
        where
          front : List Flying
          front = flying_for is_of_batch out.front

          back : List Flying
          back = flying_for is_of_batch out.back

          of_open : (o : Option Batch) → s.batch ≡ o → IsBatchFar s.log.sup.half s.log.tail s.log.number o s.log.begun (flying_for is_of_batch s.flying) → Tells out.flight.job
          of_open None is far = absurd (no_front front out.flight back (sym (part_with is_of_batch ticket s.flying out own) ∙ far.1))
          of_open (Some b) is far = batch_tells b is far
              (ends (batch_stages (batch_pieces s.log.number b) b s.log.begun) front out.flight back (λ later. Unit {0}) (λ later turn. tt)
              (subst (AreInTurn (batch_stages (batch_pieces s.log.number b) b s.log.begun)) (part_with is_of_batch ticket s.flying out own) far.far))

      of_switch : is_of_switch out.flight.job ≡ true → Tells out.flight.job
      of_switch own = of_open s.log.check refl s.switching refl m.switch
        where
          front : List Flying
          front = flying_for is_of_switch out.front

          back : List Flying
          back = flying_for is_of_switch out.back

          of_open : (o : Option Checking) → s.log.check ≡ o → (p : Option Switching) → s.switching ≡ p
              → IsSwitchFar (length (check_pieces s.log)) o p (flying_for is_of_switch s.flying) → Tells out.flight.job
          of_open None is None has far = absurd (no_front front out.flight back (sym (part_with is_of_switch ticket s.flying out own) ∙ far))
          of_open (Some c) is (Some w) has far = switch_tells c w is has far
              (ends (switch_stages (length (check_pieces s.log)) c w) front out.flight back (λ later. Unit {0}) (λ later turn. tt)
              (subst (AreInTurn (switch_stages (length (check_pieces s.log)) c w)) (part_with is_of_switch ticket s.flying out own) far))
          of_open o is p has far = absurd far

      of_job : (j : Job) → out.flight.job ≡ j → Tells out.flight.job
      of_job (job.Data place count) is = subst Tells (sym is) (data_tells place count is m)
      of_job job.DataFlush is = of_batch (ap is_of_batch is)
      of_job job.Record is = of_batch (ap is_of_batch is)
      of_job job.RecordFlush is = of_batch (ap is_of_batch is)
      of_job other is = of_switch (ap is_of_switch is)

-- both flushes have ended, and all contexts are written
pub record IsSynced (b : Batch) : Type 0 where
  pub first : flush_of b.first ≡ flushed
  pub second : flush_of b.second ≡ flushed
  pub written : AllByRecursion IsAllGiven b.contexts

pub ready_synced : (s : State) (flights : List Flight) (depth : ℕ) (b : Batch) → FlightsMatch s flights → is_ready_up step.Commit depth s ≡ true
    → s.batch ≡ Some b → IsSynced b
ready_synced s flights depth b m ready is =
    let opened : IsBatchOpen s.log.sup.half s.log.tail s.log.number b s.log.begun (flying_for is_of_batch s.flying) = open_far s flights b m is in
    let second : is_flushed b.second ≡ true = test_of (λ b. is_flushed b.second) s.batch b is ready in
    let ended = synced_far s.log.sup.half s.log.tail s.log.number b s.log.begun (flying_for is_of_batch s.flying) opened second in
    record {
      first = ap flush_of (ended_flushed job.DataFlush b.first ended.0);
      second = ap flush_of (ended_flushed job.RecordFlush b.second ended.1.1.0);
      written = opened.written;
    }

-- while its record hasn't ended, the flush behind it isn't submitted
second_unsent : (half tail number : ℕ) (b : Batch) (o : Option Begun) (flying : List Flying) → IsBatchOpen half tail number b o flying → ¬ IsEnded (record_stage number b o)
    → flush_of b.second ≡ not_sent
second_unsent half tail number b o flying opened going = ap flush_of (unless_begun job.RecordFlush b.second
    (λ begun. going (ended_ahead (by_one job.DataFlush b.first ∷ record_stage number b o ∷ []) (by_one job.RecordFlush b.second) [] flying begun opened.far).1.0))

-- so it is while no record is made
pub unsealed_second : (s : State) (flights : List Flight) → FlightsMatch s flights → s.log.begun ≡ None → second_flush s.batch ≡ not_sent
unsealed_second s flights m none =
    of_batch s.batch (subst (λ (o : Option Begun). IsBatchFar s.log.sup.half s.log.tail s.log.number s.batch o (flying_for is_of_batch s.flying)) none m.batch)
  where
    unmade : (b : Batch) → ¬ IsEnded (record_stage s.log.number b None)
    unmade b ended = let made = ended_made s.log.number b None ended in let never : None ≡ Some made.0 = made.1 in cc

    of_batch : (o : Option Batch) → IsBatchFar s.log.sup.half s.log.tail s.log.number o None (flying_for is_of_batch s.flying) → second_flush o ≡ not_sent
    of_batch None h = refl
    of_batch (Some b) h = second_unsent s.log.sup.half s.log.tail s.log.number b None (flying_for is_of_batch s.flying) h (unmade b)

-- and while pieces of it are left
pub record_second : (s : State) (flights : List Flight) (depth : ℕ) (r : Begun) → FlightsMatch s flights → is_ready_up step.Record depth s ≡ true
    → s.log.begun ≡ Some r → second_flush s.batch ≡ not_sent
record_second s flights depth r m ready begun =
    let b = some_is (λ b. is_flushed b.first) s.batch (record_tests s depth ready).0 in
    let flying : List Flying = flying_for is_of_batch s.flying in
    let opened : IsBatchOpen s.log.sup.half s.log.tail s.log.number b.0 (Some r) flying = begun_far s flights b.0 (Some r) m b.1 begun in
    let made : IsMadeFar s.log.number b.0 r flying = made_far s.log.sup.half s.log.tail s.log.number b.0 r flying opened in
    ap second_flush b.1
    ∙ second_unsent s.log.sup.half s.log.tail s.log.number b.0 (Some r) flying opened
    (λ ended. never r.given (batch_pieces s.log.number b.0) (pieces_of s.log.number r) ended.0 made.pieces (pieces_left s depth r ready begun))
  where
    never : (given pieces all : ℕ) → given ≡ pieces → pieces ≡ all → given < all → ⊥
    never given pieces all is same less = omega (arith, is, same, less)

-- where the flush behind the record is ready, the record is made
pub sync_begun : (s : State) (depth : ℕ) → is_ready_up step.Sync depth s ≡ true
    → (second_flush s.batch ≡ not_sent) × ((r : Begun) × (s.log.begun ≡ Some r))
sync_begun s depth ready =
    let both = sync_tests s depth ready in
    let b = some_is (λ b. is_not_sent b.second) s.batch both.0 in (
      ap second_flush b.1 ∙ ap flush_of (not_sent_is b.0.second (test_of (λ b. is_not_sent b.second) s.batch b.0 b.1 both.0)),
      some_is (λ r. r.written == pieces_of s.log.number r) s.log.begun both.1,
    )

-- while pieces of a checkpoint are left, neither the flush behind it is submitted nor the superblock
pub check_left_flush : (s : State) (flights : List Flight) (depth : ℕ) (c : Checking) → FlightsMatch s flights → is_ready_up step.CheckWrite depth s ≡ true
    → s.log.check ≡ Some c → (w : Switching) × (s.switching ≡ Some w) × (flush_of w.flush ≡ not_sent) × (w.slot ≡ flush.NotSent)
check_left_flush s flights depth c m ready begun =
    let w = check_switches s flights c m begun in
    let opened : IsSwitchOpen s w.0 = switch_open s flights w.0 m w.1 in
    let unsent = unsent_behind [] (check_stage s.log opened.checking)
    (by_one job.CheckFlush w.0.flush ∷ by_one job.Slot w.0.slot ∷ by_one job.SlotFlush w.0.slot_flush ∷ []) (flying_for is_of_switch s.flying)
    (λ ended. left opened.checking.given (length (check_pieces s.log)) ended.0 (runs_left_over s depth opened.checking ready opened.check)) opened.far in
    (w.0, w.1, ap flush_of (unsent_is job.CheckFlush w.0.flush unsent.0), unsent_is job.Slot w.0.slot unsent.1.0)
  where
    left : (given pieces : ℕ) → given ≡ pieces → given < pieces → ⊥
    left given pieces is less = omega (arith, is, less)

-- where its flush is ready, the superblock isn't submitted
pub check_flush_slot : (s : State) (flights : List Flight) (w : Switching) → FlightsMatch s flights → s.switching ≡ Some w → is_not_sent w.flush ≡ true
    → w.slot ≡ flush.NotSent
check_flush_slot s flights w m is ready =
    let opened : IsSwitchOpen s w = switch_open s flights w m is in
    let unsent = unsent_behind (check_stage s.log opened.checking ∷ []) (by_one job.CheckFlush w.flush)
    (by_one job.Slot w.slot ∷ by_one job.SlotFlush w.slot_flush ∷ []) (flying_for is_of_switch s.flying)
    (λ ended. never (subst (λ (f : FlushState). IsEnded (by_one job.CheckFlush f)) (not_sent_is w.flush ready) ended)) opened.far in
    unsent_is job.Slot w.slot unsent.0
  where
    never : IsEnded (by_one job.CheckFlush flush.NotSent) → ⊥
    never ended = ended

-- where the superblock isn't submitted, nor is the flush behind it
pub slot_left_flush : (s : State) (flights : List Flight) (w : Switching) → FlightsMatch s flights → s.switching ≡ Some w → is_not_sent w.slot ≡ true
    → w.slot_flush ≡ flush.NotSent
slot_left_flush s flights w m is ready =
    let opened : IsSwitchOpen s w = switch_open s flights w m is in
    let unsent = unsent_behind (check_stage s.log opened.checking ∷ by_one job.CheckFlush w.flush ∷ []) (by_one job.Slot w.slot)
    (by_one job.SlotFlush w.slot_flush ∷ []) (flying_for is_of_switch s.flying)
    (λ ended. never (subst (λ (f : FlushState). IsEnded (by_one job.Slot f)) (not_sent_is w.slot ready) ended)) opened.far in
    unsent_is job.SlotFlush w.slot_flush unsent.0
  where
    never : IsEnded (by_one job.Slot flush.NotSent) → ⊥
    never ended = ended
