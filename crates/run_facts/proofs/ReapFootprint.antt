-- The footprint of Reap.
use Rattle.std.proofs.Common.{◌≡◌, inl, inr, true, ℕ, ◌+◌, List, [], drop, Option, Some, None, refl, sym, ap, subst, ◌∙◌}
use Rattle.run_facts.proofs.Common.{option_map, option_map_or, Disk, Reaped, Waited, FreshUnit, FlushState, Ticket, Flying, Job, Begun}
use Rattle.meta_log.specs.declared.runs.UnitRun.{UnitRun}
use Rattle.meta_log.specs.Prelude.{in_runs}
use Rattle.meta_store.specs.Store.{Checking}
use Rattle.switch_facts.specs.Prelude.{CheckPart, written}
use Rattle.switch_facts.specs.OtherGoes as other
use Rattle.store_steps.specs.declared.flight.FlushState.TheVariants as flush
use Rattle.store_steps.specs.declared.flight.Job.TheVariants as job
use Rattle.store_steps.specs.declared.flight.Switching.{Switching}
use Rattle.store_steps.specs.Prelude.{Batch, State, checked_more, check_flushed, slot_written, slot_flushed, check_pieces, flush_of, slot_phase, other_check, other_part, done_more, after_done, first_flushed, second_flushed, written_more, DoesReap, begun_ops, Intent, rows_part, data_part, half_part, ends, Footprint}
use Rattle.store_steps.specs.DataGoes as units
use Rattle.store_steps.specs.HalfGoes as half
use Rattle.store_steps.specs.BookGoes as book
use Rattle.flight_facts.proofs.Prelude.{intents_kept, others_of, Landed, landed_flight, reaped_good, IsOf, found_tells, IsLeftOut, left_out}
use Rattle.run_facts.specs.Prelude.{IsKept}
use Rattle.run_facts.proofs.PartsKept.{given_kept, check_part, book_alone, device_alone, other_alone}

-- how many pieces have ended doesn't matter to the log
half_kept : (s : State) (o : Option Begun) → (let t : State = record s { log = record s.log { begun = option_map written_more o } } in
    half_part t) ≡ (let t : State = record s { log = record s.log { begun = o } } in half_part t)
half_kept s None = refl
half_kept s (Some r) = refl

-- nor how many of a checkpoint
checked_same : (pieces : List UnitRun) (o : Option Checking) (p : Option Switching) → other_check pieces (option_map checked_more o) p ≡ other_check pieces o p
checked_same pieces None p = refl
checked_same pieces (Some c) None = refl
checked_same pieces (Some c) (Some w) = refl

-- that the next superblock's write has ended doesn't either: the flush behind it does
slot_same : (pieces : List UnitRun) (o : Option Checking) (w : Switching) (ticket : Ticket) → w.slot ≡ flush.Sent ticket
    → other_check pieces o (Some (slot_written w)) ≡ other_check pieces o (Some w)
slot_same pieces None w ticket is = refl
slot_same pieces (Some c) w ticket is =
    ap (λ (f : FlushState). Some (record { is_left = in_runs (drop c.given pieces); flush = flush_of w.flush; slot = slot_phase f w.slot_flush })) (sym is)

-- the end of a submission for this job
of_job : (s : State) (d d' : Disk) (ticket : ℕ) (left : List Flying) (j : Job) → Reaped d ticket true d' → IsOf s ticket j
    → (let t : State = record s { flying = left; events = s.events + 1 } in Footprint s d (after_done j t) d')
of_job s d d' ticket left (job.Data place count) ended is = device_alone s d _ d' (ends ticket) ended tt tt refl
    (ap (λ (is : List Intent). record (rows_part s) { intents = is })
    (intents_kept place (done_more count) (λ x. refl) (option_map_or (λ (b : Batch). b.contexts) s.batch []) s.pending))
    (units.same tt (ap (λ (fs : List FreshUnit). record (data_part s) { given = fs })
    (given_kept place (done_more count) (λ x. refl) (option_map_or (λ (b : Batch). b.contexts) s.batch []) s.pending))) (half.same tt refl) refl refl
of_job s d d' ticket left job.DataFlush ended (b, is, first) =
    subst (λ (o : Option Batch). Footprint (record s { batch = o }) d
    (record s { batch = option_map first_flushed o; flying = left; events = s.events + 1 }) d') (sym is)
    (device_alone (record s { batch = Some b }) d _ d' (ends ticket) ended tt tt refl refl (units.is_flushed ticket first refl) (half.same tt refl) refl refl)
of_job s d d' ticket left job.Record ended is =
    device_alone s d _ d' (ends ticket) ended tt tt refl refl (units.same tt refl) (half.same tt (half_kept s s.log.begun)) refl refl
of_job s d d' ticket left job.RecordFlush ended (b, is, second, (r, begun)) =
    subst (λ (o : Option Batch). Footprint (record s { batch = o }) d
    (record s { batch = option_map second_flushed o; flying = left; events = s.events + 1 }) d') (sym is)
    (device_alone (record s { batch = Some b }) d _ d' (ends ticket) ended tt tt refl refl (units.same tt refl)
    (half.is_synced ticket r.ops (ap begun_ops begun) second refl) refl refl)
of_job s d d' ticket left job.Check ended is =
    device_alone s d _ d' (ends ticket) ended tt tt refl refl (units.same tt refl) (half.same tt refl)
    (ap (λ (c : Option CheckPart). record (other_part s) { check = c }) (checked_same (check_pieces s.log) s.log.check s.switching)) refl
of_job s d d' ticket left job.CheckFlush ended (c, check, (w, has, sent, slot)) =
    subst (λ (p : Option Switching). Footprint (record s { switching = p }) d
    (record s { switching = option_map check_flushed p; flying = left; events = s.events + 1 }) d') (sym has)
    (subst (λ (o : Option Checking). Footprint (record s { log = record s.log { check = o }; switching = Some w }) d
    (record s { log = record s.log { check = o }; switching = Some (check_flushed w); flying = left; events = s.events + 1 }) d') (sym check)
    (other_alone (record s { log = record s.log { check = Some c }; switching = Some w }) d _ d' (ends ticket) ended tt tt tt refl refl refl refl
    (other.is_flushed (check_part s.log c w) ticket refl sent (ap (λ (f : FlushState). slot_phase f w.slot_flush) slot) refl) refl))
of_job s d d' ticket left job.Slot ended (w, has, (slot_ticket, slot)) =
    subst (λ (p : Option Switching). Footprint (record s { switching = p }) d
    (record s { switching = option_map slot_written p; flying = left; events = s.events + 1 }) d') (sym has)
    (device_alone (record s { switching = Some w }) d _ d' (ends ticket) ended tt tt refl refl (units.same tt refl) (half.same tt refl)
    (ap (λ (c : Option CheckPart). record (other_part s) { check = c }) (slot_same (check_pieces s.log) s.log.check w slot_ticket slot)) refl)
of_job s d d' ticket left job.SlotFlush ended (c, check, (w, has, sent, slot)) =
    subst (λ (p : Option Switching). Footprint (record s { switching = p }) d
    (record s { switching = option_map slot_flushed p; flying = left; events = s.events + 1 }) d') (sym has)
    (subst (λ (o : Option Checking). Footprint (record s { log = record s.log { check = o }; switching = Some w }) d
    (record s { log = record s.log { check = o }; switching = Some (slot_flushed w); flying = left; events = s.events + 1 }) d') (sym check)
    (subst (λ (f : FlushState). Footprint (record s { log = record s.log { check = Some c }; switching = Some (record w { slot = f }) }) d
    (record s { log = record s.log { check = Some c }; switching = Some (slot_flushed (record w { slot = f })); flying = left; events = s.events + 1 }) d')
    (sym slot) (other_alone (record s { log = record s.log { check = Some c }; switching = Some (record w { slot = flush.Flushed }) }) d _ d' (ends ticket)
    ended tt tt tt refl refl refl refl
    (other.slot_flushed (check_part s.log c (record w { slot = flush.Flushed })) ticket refl (ap written sent) refl) refl)))

-- none was ready
waited_same : (d d' : Disk) → Waited d d' → (d'.history ≡ d.history) × (d'.flights ≡ d.flights)
waited_same d d' (inl idle) = (ap (λ (e : Disk). e.history) idle.1, ap (λ (e : Disk). e.flights) idle.1)
waited_same d d' (inr busy) = (ap (λ (e : Disk). e.history) busy.2, ap (λ (e : Disk). e.flights) busy.2)

pub reap_footprint : (s : State) (d : Disk) (s' : State) (d' : Disk) → IsKept s d → s.down ≡ None → DoesReap s d s' d' → Footprint s d s' d'
reap_footprint s d s' d' kept up (inl ended) =
    let land : Landed s.flying ended.ticket d d' = landed_flight d d' ended.ticket true s.flying kept.always.flights ended.ended in
    let out : IsLeftOut ended.ticket s.flying = left_out ended.ticket s.flying land.fewer in
    subst (λ (t : State). Footprint s d t d') (sym (ended.after ∙ reaped_good s ended.ticket out.flight up out.found))
    (of_job s d d' ended.ticket.place (others_of ended.ticket s.flying) out.flight.job ended.ended
    (found_tells s d.flights ended.ticket out (kept.up up).flights))
reap_footprint s d s' d' kept up (inr (waited, is)) = subst (λ (t : State). Footprint s d t d') (sym is)
    (book_alone s d s d' (waited_same d d' waited) refl refl refl refl refl (book.same refl) tt)
