-- Each step of a switch of halves keeps what is in flight, part by part.
use Rattle.std.proofs.Common.{◌≡◌, inl, inr, ℕ, ◌+◌, ◌-◌, ◌*◌, ◌<◌, ◌≤◌, true, false, List, [], ◌∷◌, ◌++◌, length, slice_get, Option, Some, None, IfSome, refl, sym, ap, subst, ◌∙◌, append-nil, arith}
use Rattle.flight_facts.proofs.Common.{AllByRecursion, cases_lt, Flight, flight_of, Ticket, UnitRun, other_unit, other_slot, Flying, Job, Meta, Checking, is_flushed, same_Some}
use Rattle.block_device.specs.declared.event.Event.TheVariants as event
use Rattle.meta_log.specs.Prelude.{super_bytes, next_super}
use Rattle.meta_log.proofs.SlotLemmas.{length-super_bytes}
use Rattle.store_steps.specs.declared.flight.FlushState.TheVariants as flush
use Rattle.store_steps.specs.declared.flight.Job.TheVariants as job
use Rattle.meta_store.specs.Checks as checks
use Rattle.store_steps.specs.declared.flight.Switching.{Switching}
use Rattle.store_steps.specs.Prelude.{Batch, State, is_not_sent, check_pieces, check_sent, check_flush_sent, slot_sent, slot_flush_sent, check_begun, switched}
use Rattle.flight_facts.specs.Prelude.{Stage, by_one, by_pieces, IsEnded, AreInTurn, IsBatchFar, switch_stages, IsSwitchFar, units_of_job, is_of_batch, is_of_switch, flying_for, TouchesOnly, IsGivenRun, TouchesOnlyOf, IsOfJob, AreOfJobs, FlightsMatch}
use Rattle.flight_facts.proofs.Untouched.{apart_before, apart_behind}
use Rattle.flight_facts.proofs.Stages.{flight_for, none_sent, all_ended, ended_ahead, written_ended, sends, not_sent_next, flushed_ended, flushed_begun}
use Rattle.flight_facts.proofs.Landing.{part_skip}
use Rattle.flight_facts.proofs.Runs.{in_next, in_before, in_run_at}
use Rattle.flight_facts.proofs.Matching.{pieces_kept, log_sent, jobs_change, data_alone, rests_switch}

-- ---- a switch that is under way

-- a checkpoint is open then, and no batch is
pub record IsSwitchOpen (s : State) (w : Switching) : Type 0 where
  pub checking : Checking
  pub check : s.log.check ≡ Some checking
  pub far : AreInTurn (switch_stages (length (check_pieces s.log)) checking w) (flying_for is_of_switch s.flying)
  pub batch : s.batch ≡ None

pub switch_open : (s : State) (flights : List Flight) (w : Switching) → FlightsMatch s flights → s.switching ≡ Some w → IsSwitchOpen s w
switch_open s flights w m is = of_check s.log.check refl
    (subst (λ (o : Option Switching). IsSwitchFar (length (check_pieces s.log)) s.log.check o (flying_for is_of_switch s.flying)) is m.switch)
  where
    of_check : (o : Option Checking) → s.log.check ≡ o → IsSwitchFar (length (check_pieces s.log)) o (Some w) (flying_for is_of_switch s.flying)
        → IsSwitchOpen s w
    of_check None e far = absurd far
    of_check (Some c) e far = record {
      checking = c;
      check = e;
      far = far;
      batch = subst (λ (o : Option Switching). IfSome o (λ v. s.batch ≡ None)) is m.alone;
    }

-- nothing flies for a batch while none is open
pub rests_batch : (s : State) (flights : List Flight) → FlightsMatch s flights → s.batch ≡ None
    → (s.log.begun ≡ None) × (flying_for is_of_batch s.flying ≡ [])
rests_batch s flights m none = subst (λ (o : Option Batch). IsBatchFar s.log.sup.half s.log.tail s.log.number o s.log.begun (flying_for is_of_batch s.flying)) none m.batch

-- ---- the stages that have ended

-- its pieces
abbrev pub check_stage : Meta → Checking → Stage
check_stage m c = by_pieces job.Check (length (check_pieces m)) c.given c.written

-- what is behind them
abbrev pub behind_check : Switching → List Stage
behind_check w = by_one job.CheckFlush w.flush ∷ by_one job.Slot w.slot ∷ by_one job.SlotFlush w.slot_flush ∷ []

-- where all pieces are written
pub check_ended : (s : State) (w : Switching) (c : Checking) → (opened : IsSwitchOpen s w) → s.log.check ≡ Some c
    → c.written ≡ length (check_pieces s.log) → IsEnded (check_stage s.log opened.checking)
check_ended s w c opened begun all =
    written_ended [] job.Check (length (check_pieces s.log)) opened.checking.given opened.checking.written (behind_check w) (flying_for is_of_switch s.flying)
    (ap (λ (k : Checking). k.written) (same_Some opened.checking c (sym opened.check ∙ begun)) ∙ all) opened.far

-- up to the flush behind them, the superblock, and the flush behind that
pub ended_to_flush : (s : State) (w : Switching) (opened : IsSwitchOpen s w) → is_flushed w.flush ≡ true
    → AllByRecursion IsEnded (check_stage s.log opened.checking ∷ by_one job.CheckFlush w.flush ∷ [])
ended_to_flush s w opened flushed =
    let ahead = ended_ahead (check_stage s.log opened.checking ∷ []) (by_one job.CheckFlush w.flush) (by_one job.Slot w.slot ∷ by_one job.SlotFlush w.slot_flush ∷ [])
    (flying_for is_of_switch s.flying) (flushed_begun job.CheckFlush w.flush flushed) opened.far in
    (ahead.0, (flushed_ended job.CheckFlush w.flush flushed, tt))

pub ended_to_slot : (s : State) (w : Switching) (opened : IsSwitchOpen s w) → is_flushed w.slot ≡ true
    → AllByRecursion IsEnded (check_stage s.log opened.checking ∷ by_one job.CheckFlush w.flush ∷ by_one job.Slot w.slot ∷ [])
ended_to_slot s w opened written =
    let ahead = ended_ahead (check_stage s.log opened.checking ∷ by_one job.CheckFlush w.flush ∷ []) (by_one job.Slot w.slot) (by_one job.SlotFlush w.slot_flush ∷ [])
    (flying_for is_of_switch s.flying) (flushed_begun job.Slot w.slot written) opened.far in
    (ahead.0, (ahead.1.0, (flushed_ended job.Slot w.slot written, tt)))

pub ended_all : (s : State) (w : Switching) (opened : IsSwitchOpen s w) → is_flushed w.slot_flush ≡ true
    → AllByRecursion IsEnded (switch_stages (length (check_pieces s.log)) opened.checking w)
ended_all s w opened flushed =
    let ahead = ended_ahead (check_stage s.log opened.checking ∷ by_one job.CheckFlush w.flush ∷ by_one job.Slot w.slot ∷ []) (by_one job.SlotFlush w.slot_flush) []
    (flying_for is_of_switch s.flying) (flushed_begun job.SlotFlush w.slot_flush flushed) opened.far in
    (ahead.0, (ahead.1.0, (ahead.1.1.0, (flushed_ended job.SlotFlush w.slot_flush flushed, tt))))

-- ---- its submissions

-- a submission for the switch
switch_sent : (s : State) (flights : List Flight) (w w' : Switching) (o : Option Checking) (f : Flying) (g : Flight) → is_of_batch f.job ≡ false
    → ((place : ℕ) → units_of_job place f.job ≡ 0) → FlightsMatch s flights → IsSwitchOpen s w
    → IsSwitchFar (length (check_pieces s.log)) o (Some w') (flying_for is_of_switch s.flying ++ flying_for is_of_switch (f ∷ []))
    → (let m' : Meta = record s.log { check = o } in AreOfJobs m' s.pending s.flying flights × IsOfJob m' s.pending f.job g)
    → (let m' : Meta = record s.log { check = o } in
    let t : State = record s { log = m'; switching = Some w'; flying = s.flying ++ f ∷ []; events = s.events + 1 } in FlightsMatch t (flights ++ g ∷ []))
switch_sent s flights w w' o f g other none m opened far touches =
    let m' : Meta = record s.log { check = o } in
    let skip : flying_for is_of_batch s.flying ++ flying_for is_of_batch (f ∷ []) ≡ flying_for is_of_batch s.flying =
    ap (λ (fs : List Flying). flying_for is_of_batch s.flying ++ fs) (part_skip is_of_batch f [] other) ∙ append-nil (flying_for is_of_batch s.flying) in
    log_sent s flights f g m' s.batch (Some w') (s.events + 1) none m (subst (IsBatchFar s.log.sup.half s.log.tail s.log.number s.batch s.log.begun) (sym skip) m.batch) far
    opened.batch touches.0 touches.1

-- one of its flushes, or the superblock, where the stages ahead have ended
one_sent : (s : State) (flights : List Flight) (w w' : Switching) (j : Job) (ticket : Ticket) (g : Flight) → is_of_batch j ≡ false
    → ((place : ℕ) → units_of_job place j ≡ 0) → FlightsMatch s flights → (opened : IsSwitchOpen s w)
    → AreInTurn (switch_stages (length (check_pieces s.log)) opened.checking w') (flying_for is_of_switch s.flying ++ flying_for is_of_switch (flight_for ticket j ∷ []))
    → IsOfJob s.log s.pending j g
    → (let t : State = record s { switching = Some w'; flying = s.flying ++ flight_for ticket j ∷ []; events = s.events + 1 } in FlightsMatch t (flights ++ g ∷ []))
one_sent s flights w w' j ticket g other none m opened far is =
    switch_sent s flights w w' s.log.check (flight_for ticket j) g other none m opened
    (subst (λ (o : Option Checking). IsSwitchFar (length (check_pieces s.log)) o (Some w') (flying_for is_of_switch s.flying ++ flying_for is_of_switch (flight_for ticket j ∷ [])))
    (sym opened.check) far) (m.touches, is)

-- ---- the checkpoint

-- its next piece touches units that are given then
run_touches : (m : Meta) (c : Checking) (run : UnitRun) (ticket : ℕ) (bytes : List ℕ) → slice_get (check_pieces m) c.given ≡ Some run
    → run.first + run.count ≤ m.sup.half → length bytes ≡ 4096 * run.count
    → TouchesOnly (IsGivenRun m (record c { given = c.given + 1 })) (flight_of ticket (event.Write (other_unit m.sup + run.first) bytes))
run_touches m c run ticket bytes is within size unit out = elim (cases_lt unit (other_unit m.sup + run.first)) [
  | inl before ↦ apart_before ticket (other_unit m.sup + run.first) unit bytes before
  | inr from ↦ elim (cases_lt unit (other_unit m.sup + run.first + run.count)) [
    | inl inside ↦ absurd (out (record {
      k = unit - other_unit m.sup;
      within = below (other_unit m.sup) run.first run.count m.sup.half unit from inside within;
      inside = in_next (check_pieces m) c.given run (unit - other_unit m.sup) is
          (in_run_at run (unit - other_unit m.sup) (first (other_unit m.sup) run.first unit from) (last (other_unit m.sup) run.first run.count unit from inside));
      is = place (other_unit m.sup) run.first unit from;
    }))
    | inr past ↦ apart_behind ticket (other_unit m.sup + run.first) run.count unit bytes size past
  ]
]
  where
    below : (other first count half unit : ℕ) → other + first ≤ unit → unit < other + first + count → first + count ≤ half → unit - other < half
    below other first count half unit from to le = omega (arith, from, to, le)

    first : (other first unit : ℕ) → other + first ≤ unit → first ≤ unit - other
    first other begin unit from = omega (arith, from)

    last : (other first count unit : ℕ) → other + first ≤ unit → unit < other + first + count → unit - other < first + count
    last other begin count unit from to = omega (arith, from, to)

    place : (other first unit : ℕ) → other + first ≤ unit → unit ≡ other + (unit - other)
    place other begin unit from = omega (arith, from)

-- one that was given before is one still
runs_more : (m : Meta) (c : Checking) (run : UnitRun) (g : Flight) → slice_get (check_pieces m) c.given ≡ Some run → TouchesOnly (IsGivenRun m c) g
    → TouchesOnly (IsGivenRun m (record c { given = c.given + 1 })) g
runs_more m c run g is touches unit out =
    touches unit (λ p. out (record { k = p.k; within = p.within; inside = in_before (check_pieces m) c.given run p.k is p.inside; is = p.is }))

pub check_matches : (s : State) (flights : List Flight) (w : Switching) (c : Checking) (run : UnitRun) (ticket : Ticket) (bytes : List ℕ)
    → FlightsMatch s flights → s.switching ≡ Some w → s.log.check ≡ Some c → c.given < length (check_pieces s.log)
    → slice_get (check_pieces s.log) c.given ≡ Some run → run.first + run.count ≤ s.log.sup.half → length bytes ≡ 4096 * run.count
    → FlightsMatch (check_sent c ticket s) (flights ++ flight_of ticket.place (event.Write (other_unit s.log.sup + run.first) bytes) ∷ [])
check_matches s flights w c run ticket bytes m is begun more next within size =
    let opened : IsSwitchOpen s w = switch_open s flights w m is in
    let flying : List Flying = flying_for is_of_switch s.flying in
    let pieces : ℕ = length (check_pieces s.log) in
    let c' : Checking = record c { given = c.given + 1 } in
    let m' : Meta = record s.log { check = Some c' } in
    let g : Flight = flight_of ticket.place (event.Write (other_unit s.log.sup + run.first) bytes) in
    let far : IsSwitchFar pieces (Some c) (Some w) flying =
    subst (λ (o : Option Checking). IsSwitchFar pieces o (Some w) flying) (sym opened.check ∙ begun) opened.far in
    subst (λ (o : Option Switching).
    let t : State = record s { log = m'; switching = o; flying = s.flying ++ flight_for ticket job.Check ∷ []; events = s.events + 1 } in
    FlightsMatch t (flights ++ g ∷ [])) (sym is)
    (switch_sent s flights w w (Some c') (flight_for ticket job.Check) g refl (λ place. refl) m opened
    (sends [] (by_pieces job.Check pieces c.given c.written) (behind_check w) flying ticket tt more far) (
      jobs_change s.log m' s.pending s.pending (record {
        writes = λ place count g w. w;
        pieces = λ h p. pieces_kept s.log (Some c') s.log.begun h p;
        runs = λ h p. runs_more s.log c run h next (subst (λ (o : Option Checking). TouchesOnlyOf (IsGivenRun s.log) o h) begun p);
        slot = refl;
      }) s.flying flights m.touches,
      run_touches s.log c run ticket.place bytes next within size,
    ))

pub check_flush_matches : (s : State) (flights : List Flight) (w : Switching) (c : Checking) (ticket : Ticket) → FlightsMatch s flights → s.switching ≡ Some w
    → s.log.check ≡ Some c → is_not_sent w.flush ≡ true → c.written ≡ length (check_pieces s.log)
    → FlightsMatch (check_flush_sent w ticket s) (flights ++ flight_of ticket.place event.Flush ∷ [])
check_flush_matches s flights w c ticket m is begun ready all =
    let opened : IsSwitchOpen s w = switch_open s flights w m is in
    let ended = check_ended s w c opened begun all in
    one_sent s flights w (record w { flush = flush.Sent ticket }) job.CheckFlush ticket (flight_of ticket.place event.Flush) refl (λ place. refl) m opened
    (sends (check_stage s.log opened.checking ∷ []) (by_one job.CheckFlush w.flush) (by_one job.Slot w.slot ∷ by_one job.SlotFlush w.slot_flush ∷ [])
    (flying_for is_of_switch s.flying) ticket (ended, tt) (not_sent_next job.CheckFlush w.flush ready) opened.far) refl

-- ---- the slot

slot_touches : (slot ticket : ℕ) (bytes : List ℕ) → length bytes ≡ 4096 → TouchesOnly (λ unit. unit ≡ slot) (flight_of ticket (event.Write slot bytes))
slot_touches slot ticket bytes size unit out = elim (cases_lt unit slot) [
  | inl before ↦ apart_before ticket slot unit bytes before
  | inr from ↦ apart_behind ticket slot 1 unit bytes size (past unit slot from out)
]
  where
    past : (unit slot : ℕ) → slot ≤ unit → ¬ (unit ≡ slot) → slot + 1 ≤ unit
    past unit slot from out = omega (arith, from, out)

pub slot_matches : (s : State) (flights : List Flight) (w : Switching) (ticket : Ticket) → FlightsMatch s flights → s.switching ≡ Some w
    → is_flushed w.flush ≡ true → is_not_sent w.slot ≡ true
    → FlightsMatch (slot_sent w ticket s)
    (flights ++ flight_of ticket.place (event.Write (other_slot s.log.sup) (super_bytes (next_super s.log.sup s.log.number))) ∷ [])
slot_matches s flights w ticket m is flushed ready =
    let opened : IsSwitchOpen s w = switch_open s flights w m is in
    let next : List ℕ = super_bytes (next_super s.log.sup s.log.number) in
    one_sent s flights w (record w { slot = flush.Sent ticket }) job.Slot ticket (flight_of ticket.place (event.Write (other_slot s.log.sup) next)) refl
    (λ place. refl) m opened
    (sends (check_stage s.log opened.checking ∷ by_one job.CheckFlush w.flush ∷ []) (by_one job.Slot w.slot) (by_one job.SlotFlush w.slot_flush ∷ [])
    (flying_for is_of_switch s.flying) ticket (ended_to_flush s w opened flushed) (not_sent_next job.Slot w.slot ready) opened.far)
    (slot_touches (other_slot s.log.sup) ticket.place next (length-super_bytes (next_super s.log.sup s.log.number)))

pub slot_flush_matches : (s : State) (flights : List Flight) (w : Switching) (ticket : Ticket) → FlightsMatch s flights → s.switching ≡ Some w
    → is_flushed w.slot ≡ true → is_not_sent w.slot_flush ≡ true
    → FlightsMatch (slot_flush_sent w ticket s) (flights ++ flight_of ticket.place event.Flush ∷ [])
slot_flush_matches s flights w ticket m is written ready =
    let opened : IsSwitchOpen s w = switch_open s flights w m is in
    one_sent s flights w (record w { slot_flush = flush.Sent ticket }) job.SlotFlush ticket (flight_of ticket.place event.Flush) refl (λ place. refl) m opened
    (sends (check_stage s.log opened.checking ∷ by_one job.CheckFlush w.flush ∷ by_one job.Slot w.slot ∷ []) (by_one job.SlotFlush w.slot_flush) []
    (flying_for is_of_switch s.flying) ticket (ended_to_slot s w opened written) (not_sent_next job.SlotFlush w.slot_flush ready) opened.far) refl

-- ---- its start and its end

pub begun_matches : (s : State) (flights : List Flight) → FlightsMatch s flights → s.batch ≡ None → s.switching ≡ None → FlightsMatch (check_begun s) flights
begun_matches s flights m none rests =
    let rest = rests_switch s flights m rests in
    let c : Checking = record { given = 0; written = 0 } in
    let w : Switching = record { flush = flush.NotSent; slot = flush.NotSent; slot_flush = flush.NotSent } in
    record {
      places = m.places;
      waiting = m.waiting;
      batch = m.batch;
      switch = subst (AreInTurn (switch_stages (length (check_pieces s.log)) c w)) (sym rest.1)
          (none_sent (switch_stages (length (check_pieces s.log)) c w) ((refl, refl), (tt, (tt, (tt, tt)))));
      alone = none;
      touches = jobs_change s.log (check_begun s).log s.pending s.pending (record {
        writes = λ place count g w. w;
        pieces = λ h p. pieces_kept s.log (Some c) s.log.begun h p;
        runs = λ h p. absurd (subst (λ (o : Option Checking). TouchesOnlyOf (IsGivenRun s.log) o h) rest.0 p);
        slot = refl;
      }) s.flying flights m.touches;
    }

pub switched_matches : (s : State) (flights : List Flight) (w : Switching) → FlightsMatch s flights → s.switching ≡ Some w → is_flushed w.slot_flush ≡ true
    → FlightsMatch (switched s) flights
switched_matches s flights w m is ready =
    let opened : IsSwitchOpen s w = switch_open s flights w m is in
    let rest = rests_batch s flights m opened.batch in
    let landed : flying_for is_of_switch s.flying ≡ [] =
    all_ended (switch_stages (length (check_pieces s.log)) opened.checking w) (flying_for is_of_switch s.flying) (ended_all s w opened ready) opened.far in
    record {
      places = m.places;
      waiting = m.waiting;
      batch = subst (λ (o : Option Batch). IsBatchFar (checks.switched_log s.log).sup.half (checks.switched_log s.log).tail (checks.switched_log s.log).number o s.log.begun (flying_for is_of_batch s.flying)) (sym opened.batch) rest;
      switch = landed;
      alone = tt;
      touches = data_alone s.log (checks.switched_log s.log) s.pending s.flying flights rest.1 landed m.touches;
    }
