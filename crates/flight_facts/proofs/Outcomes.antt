-- What a step leaves: it has stepped, or waited, or a submission has ended badly; and that it leaves less work.
use Rattle.std.proofs.Common.{◌≡◌, inl, inr, ℕ, ◌+◌, ◌-◌, ◌*◌, ◌<◌, ◌==◌, true, false, not, List, [], ◌∷◌, length, Some, None, is_some, sym, ap, subst, ◌∙◌, arith}
use Rattle.flight_facts.proofs.Common.{option_map_or, Disk, Flight, Waited, Flying, Step, is_flushed}
use Rattle.store_steps.specs.declared.step.Step.TheVariants.{Data, Reap, Take, Flush, Seal, Record, Sync, Commit, Finish, CheckWrite, CheckFlush, SlotWrite, SlotFlush, Switch}
use Rattle.store_steps.specs.Prelude.{State, landed, is_ready, is_ready_up, is_ready_down, is_empty, pieces_of, applied_count, Takes, DoesOrFails}
use Rattle.flight_facts.specs.Prelude.{AreFlights, FlightsMatch, sum_work, batch_work, switch_work, check_due, work_left, measure, AreFlightsKnown}
use Rattle.flight_facts.proofs.Flying.{others_of, Landed, landed_flight}
use Rattle.flight_facts.proofs.Readiness.{Readiness, while_up, while_down, ready_cases}
use Rattle.flight_facts.proofs.Leaves.{down_is_some}
use Rattle.flight_facts.proofs.Downs.{Ends, bad_end, late_end}
use Rattle.flight_facts.proofs.MatchingSteps.{some_is, record_tests, sync_tests, seal_none, data_does, reap_does, take_does, flush_does, seal_does, record_does, sync_does, commit_does, finish_does, waited_does, check_does, check_flush_does, slot_does, slot_flush_does, switch_does}
use Rattle.flight_facts.proofs.Paying.{Paid, data_pays, reap_pays, take_pays, flush_pays, sync_pays, seal_pays, record_pays, commit_pays, finish_pays, check_pays, check_flush_pays, slot_pays, slot_flush_pays, switch_pays}

-- ---- an answer None

-- nothing was ready
pub waited_tickets : (flying : List Flying) (d d' : Disk) → Waited d d' → AreFlights flying d.flights → AreFlights flying d'.flights
waited_tickets flying d d' (inl none) are = subst (λ (e : Disk). AreFlights flying e.flights) (sym none.1) are
waited_tickets flying d d' (inr more) are = subst (λ (e : Disk). AreFlights flying e.flights) (sym more.2) are

-- while something flies, an answer None is one of at most 64 in a row
waited_more : (s : State) (d d' : Disk) → AreFlights s.flying d.flights → not (is_empty s.flying) ≡ true → Waited d d'
    → (d.waits < 64) × (d'.waits ≡ d.waits + 1)
waited_more s d d' are some (inl none) = absurd (flown s.flying d.flights are some none.0)
  where
    flown : (flying : List Flying) (flights : List Flight) → AreFlights flying flights → not (is_empty flying) ≡ true → flights ≡ [] → ⊥
    flown [] flights are some none = cc
    flown (f ∷ fs) [] are some none = cc
    flown (f ∷ fs) (x ∷ xs) are some none = cc
waited_more s d d' are some (inr more) = (more.1, ap (λ (e : Disk). e.waits) more.2)

-- ---- an end by which or after which the kernel is down

pub record GoneDown (s : State) (d : Disk) (s' : State) (d' : Disk) : Type 0 where
  pub ends : Ends s d s' d'
  pub down : is_some s'.down ≡ true
  pub falls : work_left s' < work_left s

falls_with : (s : State) (d : Disk) (s' : State) (d' : Disk) → AreFlights s.flying d.flights → (e : Ends s d s' d') → is_some e.down ≡ true
    → GoneDown s d s' d'
falls_with s d s' d' mirror e some =
    let u : State = (let t : State = landed e.ticket s in record t { down = e.down }) in
    let land : Landed s.flying e.ticket d d' = landed_flight d d' e.ticket e.ok s.flying mirror e.ended in
    let falls : work_left u < work_left s =
    less (length (others_of e.ticket s.flying)) (length s.flying) (sum_work s.pending) (option_map_or (batch_work s.log) s.batch 0)
    (option_map_or (switch_work s.log) s.switching (check_due s.log))
    (applied_count s - s.acked) land.fewer in
    record {
      ends = e;
      down = subst (λ (z : State). is_some z.down ≡ true) (sym e.after) some;
      falls = subst (λ (z : State). work_left z < work_left s) (sym e.after) falls;
    }
  where
    less : (rest all a b w c : ℕ) → rest + 1 ≡ all → rest + a + b + w + c < all + a + b + w + c
    less rest all a b w c is = omega (arith, is)

-- one ended badly; or well, while the kernel is down
bad_falls : (s : State) (d : Disk) (s' : State) (d' : Disk) → AreFlights s.flying d.flights → Takes s d false s' d' → GoneDown s d s' d'
bad_falls s d s' d' mirror ended = falls_with s d s' d' mirror (bad_end s d s' d' ended) (down_is_some s.down ended.ticket)

late_falls : (s : State) (d : Disk) (s' : State) (d' : Disk) → AreFlights s.flying d.flights → is_some s.down ≡ true → Takes s d true s' d'
    → GoneDown s d s' d'
late_falls s d s' d' mirror some ended = falls_with s d s' d' mirror (late_end s d s' d' some ended) some

-- ---- what a step that was ready leaves

pub data StepOutcome (s : State) (d : Disk) (s' : State) (d' : Disk) : Type 0 where
  has_stepped : s.down ≡ None → Paid s d s' d' → FlightsMatch s' d'.flights → StepOutcome s d s' d'
  has_waited : Waited d d' → s' ≡ s → not (is_empty s.flying) ≡ true → StepOutcome s d s' d'
  has_gone_down : GoneDown s d s' d' → StepOutcome s d s' d'

up_leaves : (step : Step) (s : State) (d : Disk) (s' : State) (d' : Disk) → AreFlightsKnown s d → s.down ≡ None
    → is_ready_up step d.depth s ≡ true → DoesOrFails step s d s' d' → StepOutcome s d s' d'
up_leaves Data s d s' d' k down ready does =
    has_stepped down (data_pays s d s' d' k.tickets (k.parts down) does) (data_does s d s' d' (k.parts down) (k.fits down) does)
up_leaves Reap s d s' d' k down ready (inl (inl ended)) =
    has_stepped down (reap_pays s d s' d' k.tickets down ended) (reap_does s d s' d' k.tickets down (k.parts down) ended)
up_leaves Reap s d s' d' k down ready (inl (inr none)) = has_waited none.0 none.1 ready
up_leaves Reap s d s' d' k down ready (inr ended) = has_gone_down (bad_falls s d s' d' k.tickets ended)
up_leaves Take s d s' d' k down ready does =
    has_stepped down (take_pays s d s' d' k.tickets (k.parts down) (k.fits down) (k.checks down) ready does)
    (take_does s d s' d' (k.parts down) (k.fits down) ready does)
up_leaves Flush s d s' d' k down ready does =
    has_stepped down (flush_pays s d s' d' k.tickets ready does) (flush_does s d s' d' (k.parts down) ready does)
up_leaves Seal s d s' d' k down ready does =
    has_stepped down (seal_pays s d s' d' k.tickets (seal_none s d.depth ready) does) (seal_does s d s' d' (k.parts down) ready does)
up_leaves Record s d s' d' k down ready does =
    let b = some_is (λ b. is_flushed b.first) s.batch (record_tests s d.depth ready).0 in
    has_stepped down (record_pays s d s' d' k.tickets (k.parts down) b.0 b.1 ready does) (record_does s d s' d' (k.parts down) ready b.0 b.1 does)
up_leaves Sync s d s' d' k down ready does =
    let r = some_is (λ r. r.written == pieces_of s.log.number r) s.log.begun (sync_tests s d.depth ready).1 in
    has_stepped down (sync_pays s d s' d' k.tickets ready does) (sync_does s d s' d' (k.parts down) ready r.0 r.1 does)
up_leaves Commit s d s' d' k down ready does =
    has_stepped down (commit_pays s d s' d' k.tickets (k.parts down) k.acked does) (commit_does s d s' d' (k.parts down) ready does)
up_leaves Finish s d s' d' k down ready does =
    has_stepped down (finish_pays s d s' d' k.tickets ready does) (finish_does s d s' d' (k.parts down) does)
up_leaves CheckWrite s d s' d' k down ready does =
    has_stepped down (check_pays s d s' d' k.tickets (k.parts down) ready does) (check_does s d s' d' (k.parts down) ready does)
up_leaves CheckFlush s d s' d' k down ready does =
    has_stepped down (check_flush_pays s d s' d' k.tickets (k.parts down) ready does) (check_flush_does s d s' d' (k.parts down) ready does)
up_leaves SlotWrite s d s' d' k down ready does =
    has_stepped down (slot_pays s d s' d' k.tickets (k.parts down) ready does) (slot_does s d s' d' (k.parts down) ready does)
up_leaves SlotFlush s d s' d' k down ready does =
    has_stepped down (slot_flush_pays s d s' d' k.tickets (k.parts down) ready does) (slot_flush_does s d s' d' (k.parts down) ready does)
up_leaves Switch s d s' d' k down ready does =
    has_stepped down (switch_pays s d s' d' k.tickets (k.parts down) ready does) (switch_does s d s' d' (k.parts down) ready does)

down_leaves : (s : State) (d : Disk) (s' : State) (d' : Disk) → AreFlights s.flying d.flights → is_some s.down ≡ true → not (is_empty s.flying) ≡ true
    → DoesOrFails Reap s d s' d' → StepOutcome s d s' d'
down_leaves s d s' d' are down some (inl (inl ended)) = has_gone_down (late_falls s d s' d' are down ended)
down_leaves s d s' d' are down some (inl (inr none)) = has_waited none.0 none.1 some
down_leaves s d s' d' are down some (inr ended) = has_gone_down (bad_falls s d s' d' are ended)

pub step_leaves : (step : Step) (s : State) (d : Disk) (s' : State) (d' : Disk) → AreFlightsKnown s d → is_ready step d.depth s ≡ true
    → DoesOrFails step s d s' d' → StepOutcome s d s' d'
step_leaves step s d s' d' k ready does = of_cases (ready_cases step d.depth s ready)
  where
    -- Reap is ready where something flies, up or down
    some_flies : is_some s.down ≡ true → is_ready Reap d.depth s ≡ true → not (is_empty s.flying) ≡ true
    some_flies down r = elim s.down as
        (λ o. option_map_or (λ t. is_ready_down Reap s) o (is_ready_up Reap d.depth s) ≡ true → not (is_empty s.flying) ≡ true) [
          | None ↦ λ e. e
          | Some t ↦ λ e. e
        ] r

    of_cases : Readiness step d.depth s → StepOutcome s d s' d'
    of_cases (while_up up r) = up_leaves step s d s' d' k up r does
    of_cases (while_down down is) =
        down_leaves s d s' d' k.tickets down (some_flies down (subst (λ (x : Step). is_ready x d.depth s ≡ true) is ready))
        (subst (λ (x : Step). DoesOrFails x s d s' d') is does)

-- a step lowers the measure
pub measure_falls : (step : Step) (s : State) (d : Disk) (s' : State) (d' : Disk) → AreFlightsKnown s d → is_ready step d.depth s ≡ true
    → DoesOrFails step s d s' d' → measure s' d'.waits < measure s d.waits
measure_falls step s d s' d' k ready does = of_leaves (step_leaves step s d s' d' k ready does)
  where
    less : (w w' n n' : ℕ) → w' < w → 65 * w' + (64 - n') < 65 * w + (64 - n)
    less w w' n n' lt = omega arith

    waits : (w n : ℕ) → n < 64 → 65 * w + (64 - (n + 1)) < 65 * w + (64 - n)
    waits w n below = omega arith

    of_leaves : StepOutcome s d s' d' → measure s' d'.waits < measure s d.waits
    of_leaves (has_stepped up paid matches) = less (work_left s) (work_left s') d.waits d'.waits paid.falls
    of_leaves (has_gone_down gone) = less (work_left s) (work_left s') d.waits d'.waits gone.falls
    of_leaves (has_waited none same some) =
        let more = waited_more s d d' k.tickets some none in
        subst (λ (t : State). measure t d'.waits < measure s d.waits) (sym same)
        (subst (λ (n : ℕ). measure s n < measure s d.waits) (sym more.1) (waits (work_left s) d.waits more.0))

-- ---- for the laws

pub tickets_match : (step : Step) (s s' : State) (d d' : Disk) → AreFlightsKnown s d → is_ready step d.depth s ≡ true → DoesOrFails step s d s' d'
    → AreFlights s'.flying d'.flights
tickets_match step s s' d d' k ready does = of_leaves (step_leaves step s d s' d' k ready does)
  where
    of_leaves : StepOutcome s d s' d' → AreFlights s'.flying d'.flights
    of_leaves (has_stepped up paid matches) = paid.flights
    of_leaves (has_waited waited same some) = subst (λ (t : State). AreFlights t.flying d'.flights) (sym same) (waited_tickets s.flying d d' waited k.tickets)
    of_leaves (has_gone_down gone) = subst (λ (t : State). AreFlights t.flying d'.flights) (sym gone.ends.after)
        (landed_flight d d' gone.ends.ticket gone.ends.ok s.flying k.tickets gone.ends.ended).flights

pub parts_match : (step : Step) (s s' : State) (d d' : Disk) → AreFlightsKnown s d → is_ready step d.depth s ≡ true → DoesOrFails step s d s' d'
    → s'.down ≡ None → FlightsMatch s' d'.flights
parts_match step s s' d d' k ready does down = of_leaves (step_leaves step s d s' d' k ready does)
  where
    of_leaves : StepOutcome s d s' d' → FlightsMatch s' d'.flights
    of_leaves (has_stepped up paid matches) = matches
    of_leaves (has_waited waited same some) = subst (λ (t : State). FlightsMatch t d'.flights) (sym same)
        (waited_does s d d' (k.parts (sym (ap (λ (t : State). t.down) same) ∙ down)) waited)
    of_leaves (has_gone_down gone) = absurd (let none = ap is_some down in let some = gone.down in cc)

pub less_left : (step : Step) (s s' : State) (d d' : Disk) → AreFlightsKnown s d → is_ready step d.depth s ≡ true → DoesOrFails step s d s' d'
    → measure s' d'.waits < measure s d.waits
less_left step s s' d d' = measure_falls step s d s' d'

pub ruleset step_laws = (tickets_match, parts_match, less_left)
