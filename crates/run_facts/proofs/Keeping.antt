-- What the kernel keeps while it waits, and while it is down; and that a step lowers the measure.
use Rattle.std.proofs.Common.{◌≡◌, inl, inr, ℕ, ◌+◌, ◌<◌, ◌≤◌, true, List, [], ◌++◌, map, Some, sym, ap, subst, ◌∙◌, arith}
use Rattle.run_facts.proofs.Common.{option_map_or, Disk, Flight, IsSound, Waited, Ticket, Context, Step}
use Rattle.store_steps.specs.Prelude.{Batch, State, sum_needs, uncommitted, rows_units, rows_part, landed, is_ready, Call, submitting, reading, stepping, DoesOrFails, Submits, Reads, Calls}
use Rattle.flight_facts.specs.Prelude.{work_left, measure, budget, AreFlightsKnown}
use Rattle.flight_facts.proofs.Prelude.{Landed, landed_flight, Ends, IsStill, GoesDown, waited_history, not_both, GoneDown, StepOutcome, has_stepped, has_waited, has_gone_down, step_leaves, measure_falls, needs_both}
use Rattle.space_facts.proofs.Prelude.{check_units_are}
use Rattle.meta_log.specs.Prelude.{check_units}
use Rattle.run_facts.specs.Prelude.{HasRoom, IsAlwaysKept, IsKept}
use Rattle.run_facts.proofs.Conditions.{pending_fits, needs_are}

-- ---- numbers and the work that is left stay within the budget

pub paid_within : (e e' w w' most : ℕ) → e + w ≤ most → w' < w → e' ≤ e + 1 → e' + w' ≤ most
paid_within e e' w w' most le less more = omega arith

-- ---- an answer None

-- nothing was ready
pub waited_keeps : (s : State) (d d' : Disk) → IsSound d' → IsAlwaysKept s d → Waited d d' → IsAlwaysKept s d'
waited_keeps s d d' sound a (inl none) = subst (λ (e : Disk). IsAlwaysKept s e) (sym none.1) a
waited_keeps s d d' sound a (inr more) = record {
  device = sound;
  limits = a.limits;
  units = a.units ∙ sym (ap (λ (e : Disk). e.units) more.2);
  space = a.space;
  flights = a.flights ∙ sym (ap (λ (e : Disk). map (λ (f : Flight). f.ticket) e.flights) more.2);
  few = a.few;
  book = a.book;
  events = a.events;
  numbers = a.numbers;
  epochs = a.epochs;
  sbids = a.sbids;
}

-- ---- what is in flight is known

-- those that wait have room behind the rows
all_have_room : (s : State) → HasRoom (rows_part s) → check_units s.log.number s.log.rows + sum_needs s.pending ≤ s.log.sup.half
all_have_room s room =
    all (check_units s.log.number s.log.rows) (rows_units s.log.rows) s.log.reserved (sum_needs front) (sum_needs s.pending) (sum_needs (front ++ s.pending))
    s.log.sup.half (check_units_are s.log.number s.log.rows) (room.reserved ∙ needs_are (uncommitted s)) (needs_both front s.pending) room.room
  where
    front : List Context
    front = option_map_or (λ (b : Batch). b.contexts) s.batch []

    all : (check units reserved one rest needs half : ℕ) → check ≡ units → reserved ≡ needs → needs ≡ one + rest → units + reserved ≤ half → check + rest ≤ half
    all check units reserved one rest needs half is same both le = omega (arith, is, same, both, le)

flights_known : (s : State) (d : Disk) → IsKept s d → AreFlightsKnown s d
flights_known s d kept = record {
  tickets = kept.always.flights;
  acked = kept.always.book.within;
  parts = λ up. (kept.up up).flights;
  fits = λ up. pending_fits s (kept.up up).room;
  checks = λ up. record {
    half = kept.always.limits.half_most;
    stale = (kept.up up).stale;
    rows = all_have_room s (kept.up up).room;
  };
}

pub kept_leaves : (step : Step) (s : State) (d : Disk) (s' : State) (d' : Disk) → IsKept s d → is_ready step d.depth s ≡ true
    → DoesOrFails step s d s' d' → StepOutcome s d s' d'
kept_leaves step s d s' d' kept = step_leaves step s d s' d' (flights_known s d kept)

-- a step lowers the measure
pub work_falls : (step : Step) (s : State) (d : Disk) (s' : State) (d' : Disk) → IsKept s d → is_ready step d.depth s ≡ true
    → DoesOrFails step s d s' d' → measure s' d'.waits < measure s d.waits
work_falls step s d s' d' kept = measure_falls step s d s' d' (flights_known s d kept)

-- what it keeps
pub down_keeps : (s : State) (d : Disk) (s' : State) (d' : Disk) → IsSound d' → IsAlwaysKept s d → GoneDown s d s' d' → IsAlwaysKept s' d'
down_keeps s d s' d' sound a gone =
    let e : Ends s d s' d' = gone.ends in
    let u : State = (let t : State = landed e.ticket s in record t { down = e.down }) in
    let land : Landed s.flying e.ticket d d' = landed_flight d d' e.ticket e.ok s.flying a.flights e.ended in
    let falls : work_left u < work_left s = subst (λ (z : State). work_left z < work_left s) e.after gone.falls in
    subst (λ (z : State). IsAlwaysKept z d') (sym e.after) (record {
      device = sound;
      limits = a.limits;
      units = a.units ∙ sym land.units;
      space = a.space;
      flights = land.flights;
      few = record { commits = a.few.commits; entries = a.few.entries };
      book = a.book;
      events = paid_within s.events (s.events + 1) (work_left s) (work_left u) (budget s) a.events falls (omega arith);
      numbers = paid_within s.log.number s.log.number (work_left s) (work_left u) (budget s) a.numbers falls (omega arith);
      epochs = paid_within s.log.sup.epoch s.log.sup.epoch (work_left s) (work_left u) (budget s) a.epochs falls (omega arith);
      sbids = a.sbids;
    })

-- ---- a call that leaves the kernel down

pub down_call : (call : Call) (s : State) (d : Disk) (s' : State) (d' : Disk) (first : Ticket) → IsKept s d → s'.down ≡ Some first
    → Calls call s d s' d' → GoesDown s d s' d'
down_call (submitting client line change) s d s' d' first kept down made = inr (of_answer made.1)
  where
    of_answer : Submits client line change s d s' → IsStill s d s' d'
    of_answer (inl accepts) = absurd (not_both s'.down first (ap (λ (t : State). t.down) accepts.after ∙ accepts.can_note.up) down)
    of_answer (inr (inl refused)) = absurd (not_both s'.down first (ap (λ (t : State). t.down) refused.1.after ∙ refused.1.can_note.up) down)
    of_answer (inr (inr turned)) = record { state = turned.same; history = ap (λ (e : Disk). e.history) made.2 }
down_call (reading client line read) s d s' d' first kept down made = inr (of_answer made.0)
  where
    of_answer : Reads client line read s d s' → IsStill s d s' d'
    of_answer (inl (a, is)) = absurd (not_both s'.down first (ap (λ (t : State). t.down) is.after ∙ is.can_note.up) down)
    of_answer (inr turned) = record { state = turned.same; history = ap (λ (e : Disk). e.history) made.1 }
down_call (stepping step) s d s' d' first kept down made = of_leaves (kept_leaves step s d s' d' kept made.0 made.1)
  where
    of_leaves : StepOutcome s d s' d' → GoesDown s d s' d'
    of_leaves (has_stepped up paid matches) = absurd (not_both s'.down first (paid.near.up ∙ up) down)
    of_leaves (has_waited none same some) = inr (record { state = same; history = waited_history d d' none })
    of_leaves (has_gone_down gone) = inl gone.ends
