-- Each step that leaves the kernel up keeps what is in flight, for any number of contexts.
use Rattle.std.proofs.Common.{◌≡◌, inl, inr, ℕ, ◌+◌, ◌==◌, ◌&&◌, ◌<◌, Bool, true, false, nat_lt, List, length, Option, Some, None, is_some, is_none, refl, sym, ap, subst, ◌∙◌}
use Rattle.flight_facts.proofs.Common.{AllByRecursion, option_map_or, and_parts, eqb-true, ltb-true, Disk, Flight, Waited, other_unit, other_slot, Begun, Checking, is_flushed}
use Rattle.block_device.specs.declared.event.Event.TheVariants as event
use Rattle.meta_log.specs.Prelude.{super_bytes, next_super}
use Rattle.store_steps.specs.declared.step.Step.TheVariants.{Take, Flush, Seal, Record, Sync, Commit, CheckWrite, CheckFlush, SlotWrite, SlotFlush, Switch}
use Rattle.store_steps.specs.declared.flight.Switching.{Switching}
use Rattle.store_steps.specs.Prelude.{Batch, State, Unsent, unsent_units, run_bytes, chosen, is_not_sent, pieces_of, check_pieces, batch_is, begun_is, check_is, switch_is, is_ready_up, Takes, DoesData, DoesTake, DoesFlush, DoesSeal, DoesRecord, DoesSync, DoesCommit, DoesFinish, DoesCheckWrite, DoesCheckFlush, DoesSlotWrite, DoesSlotFlush, DoesSwitch, piece_unit, begun_piece_bytes, intent_of}
use Rattle.flight_facts.specs.Prelude.{AreFlights, IsSwitchFar, is_of_switch, flying_for, FlightsMatch, FitsRecord}
use Rattle.flight_facts.proofs.Flying.{sent_flights, Landed, landed_flight, reaped_good}
use Rattle.flight_facts.proofs.Landing.{IsLeftOut, left_out}
use Rattle.flight_facts.proofs.Matching.{flush_matches, sync_matches, seal_matches, record_matches, commit_matches}
use Rattle.flight_facts.proofs.Switching.{IsSwitchOpen, switch_open, begun_matches, check_matches, check_flush_matches, slot_matches, slot_flush_matches, switched_matches}
use Rattle.flight_facts.proofs.MatchingMore.{data_matches, take_matches}
use Rattle.flight_facts.proofs.Reaping.{reap_matches}

-- what a test says of the batch, or of the record, that there is
pub test_of : {A : Type 0} (test : A → Bool) (o : Option A) (x : A) → o ≡ Some x → option_map_or test o false ≡ true → test x ≡ true
test_of {A} test o x is passes = subst (λ (p : Option A). option_map_or test p false ≡ true) is passes

pub none_is : {A : Type 0} (o : Option A) → is_none o ≡ true → o ≡ None
none_is None e = refl
none_is (Some x) e = absurd (cc)

pub seal_none : (s : State) (depth : ℕ) → is_ready_up Seal depth s ≡ true → s.log.begun ≡ None
seal_none s depth ready = none_is s.log.begun (and_parts (is_some s.batch) (is_none s.log.begun) ready).1

pub some_is : {A : Type 0} (test : A → Bool) (o : Option A) → option_map_or test o false ≡ true → (x : A) × (o ≡ Some x)
some_is test None is = absurd (cc)
some_is test (Some x) is = (x, refl)

-- ---- what is known where a step is ready

-- Flush: the first flush of the batch isn't submitted
pub first_waits : (s : State) (depth : ℕ) (b : Batch) → is_ready_up Flush depth s ≡ true → s.batch ≡ Some b → is_not_sent b.first ≡ true
first_waits s depth b ready is = test_of (λ b. is_not_sent b.first) s.batch b is
    (and_parts (batch_is (λ b. is_not_sent b.first) s) (nat_lt (length s.flying) depth) ready).0

-- Record: the first flush has ended, and pieces of the record are left
pub record_tests : (s : State) (depth : ℕ) → is_ready_up Record depth s ≡ true
    → (batch_is (λ b. is_flushed b.first) s ≡ true) × (begun_is (λ r. nat_lt r.given (pieces_of s.log.number r)) s ≡ true)
record_tests s depth ready = and_parts (batch_is (λ b. is_flushed b.first) s) _ (and_parts _ (nat_lt (length s.flying) depth) ready).0

pub pieces_left : (s : State) (depth : ℕ) (r : Begun) → is_ready_up Record depth s ≡ true → s.log.begun ≡ Some r → r.given < pieces_of s.log.number r
pieces_left s depth r ready begun = ltb-true r.given (pieces_of s.log.number r)
    (test_of (λ r. nat_lt r.given (pieces_of s.log.number r)) s.log.begun r begun (record_tests s depth ready).1)

-- Sync: the second flush isn't submitted, and all pieces have ended
pub sync_tests : (s : State) (depth : ℕ) → is_ready_up Sync depth s ≡ true
    → (batch_is (λ b. is_not_sent b.second) s ≡ true) × (begun_is (λ r. r.written == pieces_of s.log.number r) s ≡ true)
sync_tests s depth ready = and_parts (batch_is (λ b. is_not_sent b.second) s) _ (and_parts _ (nat_lt (length s.flying) depth) ready).0

pub pieces_ended : (s : State) (depth : ℕ) (r : Begun) → is_ready_up Sync depth s ≡ true → s.log.begun ≡ Some r → r.written ≡ pieces_of s.log.number r
pieces_ended s depth r ready begun = eqb-true r.written (pieces_of s.log.number r)
    (test_of (λ r. r.written == pieces_of s.log.number r) s.log.begun r begun (sync_tests s depth ready).1)

-- Take: neither a batch is open nor a switch
pub take_tests : (s : State) (depth : ℕ) → is_ready_up Take depth s ≡ true → (s.batch ≡ None) × (s.switching ≡ None)
take_tests s depth ready =
    let both = and_parts (is_none s.batch) (is_none s.switching) (and_parts (is_none s.batch && is_none s.switching) (is_some (chosen s.pending)) ready).0 in
    (none_is s.batch both.0, none_is s.switching both.1)

-- CheckWrite: pieces of the checkpoint are left
pub runs_left_over : (s : State) (depth : ℕ) (c : Checking) → is_ready_up CheckWrite depth s ≡ true → s.log.check ≡ Some c
    → c.given < length (check_pieces s.log)
runs_left_over s depth c ready begun = ltb-true c.given (length (check_pieces s.log))
    (test_of (λ c. nat_lt c.given (length (check_pieces s.log))) s.log.check c begun (and_parts _ (nat_lt (length s.flying) depth) ready).0)

-- CheckFlush: its flush isn't submitted, and all pieces have ended
pub check_flush_tests : (s : State) (depth : ℕ) → is_ready_up CheckFlush depth s ≡ true
    → (switch_is (λ w. is_not_sent w.flush) s ≡ true) × (check_is (λ c. c.written == length (check_pieces s.log)) s ≡ true)
check_flush_tests s depth ready = and_parts (switch_is (λ w. is_not_sent w.flush) s) _ (and_parts _ (nat_lt (length s.flying) depth) ready).0

pub runs_ended : (s : State) (depth : ℕ) (c : Checking) → is_ready_up CheckFlush depth s ≡ true → s.log.check ≡ Some c
    → c.written ≡ length (check_pieces s.log)
runs_ended s depth c ready begun = eqb-true c.written (length (check_pieces s.log))
    (test_of (λ c. c.written == length (check_pieces s.log)) s.log.check c begun (check_flush_tests s depth ready).1)

-- SlotWrite and SlotFlush: what comes before has ended, and they aren't submitted
pub slot_tests : (s : State) (depth : ℕ) (w : Switching) → is_ready_up SlotWrite depth s ≡ true → s.switching ≡ Some w
    → (is_flushed w.flush ≡ true) × (is_not_sent w.slot ≡ true)
slot_tests s depth w ready is = and_parts (is_flushed w.flush) (is_not_sent w.slot)
    (test_of (λ w. is_flushed w.flush && is_not_sent w.slot) s.switching w is
    (and_parts (switch_is (λ w. is_flushed w.flush && is_not_sent w.slot) s) (nat_lt (length s.flying) depth) ready).0)

pub slot_flush_tests : (s : State) (depth : ℕ) (w : Switching) → is_ready_up SlotFlush depth s ≡ true → s.switching ≡ Some w
    → (is_flushed w.slot ≡ true) × (is_not_sent w.slot_flush ≡ true)
slot_flush_tests s depth w ready is = and_parts (is_flushed w.slot) (is_not_sent w.slot_flush)
    (test_of (λ w. is_flushed w.slot && is_not_sent w.slot_flush) s.switching w is
    (and_parts (switch_is (λ w. is_flushed w.slot && is_not_sent w.slot_flush) s) (nat_lt (length s.flying) depth) ready).0)

-- ---- each step

pub becomes : (s' t : State) (fs' fs : List Flight) → s' ≡ t → fs' ≡ fs → FlightsMatch t fs → FlightsMatch s' fs'
becomes s' t fs' fs is are m = subst (λ (z : State). FlightsMatch z fs') (sym is) (subst (FlightsMatch t) (sym are) m)

pub data_does : (s : State) (d : Disk) (s' : State) (d' : Disk) → FlightsMatch s d.flights → AllByRecursion (λ z. FitsRecord (intent_of z)) s.pending → DoesData s d s' d'
    → FlightsMatch s' d'.flights
data_does s d s' d' m fits does =
    let n : Unsent = does.next in
    becomes s' _ d'.flights _ does.after (sent_flights d d' does.ticket.place (event.Write n.first.unit (run_bytes (unsent_units n))) does.submitted)
    (data_matches s d.flights n does.ticket m fits does.is_next)

pub flush_does : (s : State) (d : Disk) (s' : State) (d' : Disk) → FlightsMatch s d.flights → is_ready_up Flush d.depth s ≡ true → DoesFlush s d s' d'
    → FlightsMatch s' d'.flights
flush_does s d s' d' m ready does =
    becomes s' _ d'.flights _ does.after (sent_flights d d' does.ticket.place event.Flush does.submitted)
    (flush_matches s d.flights does.batch does.ticket m does.begun (first_waits s d.depth does.batch ready does.begun))

pub seal_does : (s : State) (d : Disk) (s' : State) (d' : Disk) → FlightsMatch s d.flights → is_ready_up Seal d.depth s ≡ true → DoesSeal s d s' d'
    → FlightsMatch s' d'.flights
seal_does s d s' d' m ready does =
    becomes s' _ d'.flights d.flights does.after (ap (λ (e : Disk). e.flights) does.same)
    (seal_matches s d.flights does.batch m does.begun (seal_none s d.depth ready))

pub record_does : (s : State) (d : Disk) (s' : State) (d' : Disk) → FlightsMatch s d.flights → is_ready_up Record d.depth s ≡ true
    → (b : Batch) → s.batch ≡ Some b → DoesRecord s d s' d' → FlightsMatch s' d'.flights
record_does s d s' d' m ready b is does =
    let r : Begun = does.writing in
    becomes s' _ d'.flights _ does.after (sent_flights d d' does.ticket.place (event.Write (piece_unit s.log r) (begun_piece_bytes s.log.number r)) does.submitted)
    (record_matches s d.flights b r does.ticket m is does.begun
    (test_of (λ b. is_flushed b.first) s.batch b is (record_tests s d.depth ready).0) (pieces_left s d.depth r ready does.begun))

pub sync_does : (s : State) (d : Disk) (s' : State) (d' : Disk) → FlightsMatch s d.flights → is_ready_up Sync d.depth s ≡ true
    → (r : Begun) → s.log.begun ≡ Some r → DoesSync s d s' d' → FlightsMatch s' d'.flights
sync_does s d s' d' m ready r made does =
    becomes s' _ d'.flights _ does.after (sent_flights d d' does.ticket.place event.Flush does.submitted)
    (sync_matches s d.flights does.batch r does.ticket m does.begun made
    (test_of (λ b. is_not_sent b.second) s.batch does.batch does.begun (sync_tests s d.depth ready).0) (pieces_ended s d.depth r ready made))

pub reap_does : (s : State) (d : Disk) (s' : State) (d' : Disk) → AreFlights s.flying d.flights → s.down ≡ None → FlightsMatch s d.flights
    → Takes s d true s' d' → FlightsMatch s' d'.flights
reap_does s d s' d' mirror up m ended =
    let land : Landed s.flying ended.ticket d d' = landed_flight d d' ended.ticket true s.flying mirror ended.ended in
    let out : IsLeftOut ended.ticket s.flying = left_out ended.ticket s.flying land.fewer in
    becomes s' _ d'.flights _ (ended.after ∙ reaped_good s ended.ticket out.flight up out.found) land.are_left (reap_matches s d.flights ended.ticket (s.events + 1) out mirror m)

pub waited_does : (s : State) (d d' : Disk) → FlightsMatch s d.flights → Waited d d' → FlightsMatch s d'.flights
waited_does s d d' m (inl none) = subst (λ (e : Disk). FlightsMatch s e.flights) (sym none.1) m
waited_does s d d' m (inr more) = subst (λ (e : Disk). FlightsMatch s e.flights) (sym more.2) m

pub take_does : (s : State) (d : Disk) (s' : State) (d' : Disk) → FlightsMatch s d.flights → AllByRecursion (λ z. FitsRecord (intent_of z)) s.pending
    → is_ready_up Take d.depth s ≡ true → DoesTake s d s' d' → FlightsMatch s' d'.flights
take_does s d s' d' m fits ready (inl batch) =
    let idle = take_tests s d.depth ready in
    becomes s' _ d'.flights d.flights batch.after (ap (λ (e : Disk). e.flights) batch.same)
    (take_matches s d.flights m fits idle.0 idle.1 batch.some batch.fits)
take_does s d s' d' m fits ready (inr check) =
    let idle = take_tests s d.depth ready in
    becomes s' _ d'.flights d.flights check.after (ap (λ (e : Disk). e.flights) check.same) (begun_matches s d.flights m idle.0 idle.1)

pub commit_does : (s : State) (d : Disk) (s' : State) (d' : Disk) → FlightsMatch s d.flights → is_ready_up Commit d.depth s ≡ true → DoesCommit s d s' d'
    → FlightsMatch s' d'.flights
commit_does s d s' d' m ready does = becomes s' _ d'.flights d.flights does.after (ap (λ (e : Disk). e.flights) does.same)
    (commit_matches s d.flights does.batch m does.begun (test_of (λ b. is_flushed b.second) s.batch does.batch does.begun ready))

pub finish_does : (s : State) (d : Disk) (s' : State) (d' : Disk) → FlightsMatch s d.flights → DoesFinish s d s' d' → FlightsMatch s' d'.flights
finish_does s d s' d' m does = becomes s' _ d'.flights d.flights does.after (ap (λ (e : Disk). e.flights) does.same)
    (record { places = m.places; waiting = m.waiting; batch = m.batch; switch = m.switch; alone = m.alone; touches = m.touches })

-- ---- a switch of halves

-- where a checkpoint is open, a switch is
pub check_switches : (s : State) (flights : List Flight) (c : Checking) → FlightsMatch s flights → s.log.check ≡ Some c → (w : Switching) × (s.switching ≡ Some w)
check_switches s flights c m begun = of_switching s.switching refl
    (subst (λ (o : Option Checking). IsSwitchFar (length (check_pieces s.log)) o s.switching (flying_for is_of_switch s.flying)) begun m.switch)
  where
    of_switching : (o : Option Switching) → s.switching ≡ o → IsSwitchFar (length (check_pieces s.log)) (Some c) o (flying_for is_of_switch s.flying)
        → (w : Switching) × (s.switching ≡ Some w)
    of_switching None e far = absurd far
    of_switching (Some w) e far = (w, e)

pub check_does : (s : State) (d : Disk) (s' : State) (d' : Disk) → FlightsMatch s d.flights → is_ready_up CheckWrite d.depth s ≡ true
    → DoesCheckWrite s d s' d' → FlightsMatch s' d'.flights
check_does s d s' d' m ready does =
    let w = check_switches s d.flights does.checking m does.begun in
    becomes s' _ d'.flights _ does.after
    (sent_flights d d' does.ticket.place (event.Write (other_unit s.log.sup + does.run.first) does.bytes) does.submitted)
    (check_matches s d.flights w.0 does.checking does.run does.ticket does.bytes m w.1 does.begun
    (runs_left_over s d.depth does.checking ready does.begun) does.is_next does.within does.target.size)

pub check_flush_does : (s : State) (d : Disk) (s' : State) (d' : Disk) → FlightsMatch s d.flights → is_ready_up CheckFlush d.depth s ≡ true
    → DoesCheckFlush s d s' d' → FlightsMatch s' d'.flights
check_flush_does s d s' d' m ready does =
    let w : Switching = does.switching in
    let opened : IsSwitchOpen s w = switch_open s d.flights w m does.begun in
    becomes s' _ d'.flights _ does.after (sent_flights d d' does.ticket.place event.Flush does.submitted)
    (check_flush_matches s d.flights w opened.checking does.ticket m does.begun opened.check
    (test_of (λ v. is_not_sent v.flush) s.switching w does.begun (check_flush_tests s d.depth ready).0) (runs_ended s d.depth opened.checking ready opened.check))

pub slot_does : (s : State) (d : Disk) (s' : State) (d' : Disk) → FlightsMatch s d.flights → is_ready_up SlotWrite d.depth s ≡ true
    → DoesSlotWrite s d s' d' → FlightsMatch s' d'.flights
slot_does s d s' d' m ready does =
    let tests = slot_tests s d.depth does.switching ready does.begun in
    becomes s' _ d'.flights _ does.after
    (sent_flights d d' does.ticket.place (event.Write (other_slot s.log.sup) (super_bytes (next_super s.log.sup s.log.number))) does.submitted)
    (slot_matches s d.flights does.switching does.ticket m does.begun tests.0 tests.1)

pub slot_flush_does : (s : State) (d : Disk) (s' : State) (d' : Disk) → FlightsMatch s d.flights → is_ready_up SlotFlush d.depth s ≡ true
    → DoesSlotFlush s d s' d' → FlightsMatch s' d'.flights
slot_flush_does s d s' d' m ready does =
    let tests = slot_flush_tests s d.depth does.switching ready does.begun in
    becomes s' _ d'.flights _ does.after (sent_flights d d' does.ticket.place event.Flush does.submitted)
    (slot_flush_matches s d.flights does.switching does.ticket m does.begun tests.0 tests.1)

pub switch_does : (s : State) (d : Disk) (s' : State) (d' : Disk) → FlightsMatch s d.flights → is_ready_up Switch d.depth s ≡ true
    → DoesSwitch s d s' d' → FlightsMatch s' d'.flights
switch_does s d s' d' m ready does =
    let w = some_is (λ w. is_flushed w.slot_flush) s.switching ready in
    becomes s' _ d'.flights d.flights does.after (ap (λ (e : Disk). e.flights) does.same)
    (switched_matches s d.flights w.0 m w.1 (test_of (λ v. is_flushed v.slot_flush) s.switching w.0 w.1 ready))
