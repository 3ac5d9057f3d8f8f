-- What a kernel that keeps its facts knows at each call: the conditions of what it calls in turn.
use Rattle.std.proofs.Common.{◌≡◌, ℕ, ◌+◌, ◌-◌, ◌*◌, ◌^◌, ◌<◌, ◌≤◌, true, nat_lt, List, [], ◌∷◌, length, take, drop, Contains, Option, Some, None, IfSome, refl, sym, ap, subst, ◌∙◌, arith}
use Rattle.run_facts.proofs.Common.{AllByRecursion, option_map_or, and_parts, Disk, IsUntouched, ops_bytes, unit_count, given_from, piece_first, piece_units, LiesInRecord, active_unit, IsDataUnit, FreshUnit, Context, Begun}
use Rattle.block_device.specs.Prelude.{IsNotInFlight}
use Rattle.meta_rows.specs.Prelude.{AllFit}
use Rattle.meta_log.proofs.PieceLemmas.{lies}
use Rattle.store_steps.specs.declared.step.Step.TheVariants.{Data, Flush, Seal, Record, Sync, Commit, Finish}
use Rattle.store_steps.specs.Prelude.{Batch, State, Unsent, unsent_units, run_bytes, next_unsent, batch_ops, is_not_sent, applied_count, is_ready, is_drained, piece_unit, begun_piece_bytes, all_fresh, intents, needs_by}
use Rattle.flight_facts.specs.Prelude.{IsNone, IsGivenPiece}
use Rattle.flight_facts.proofs.Prelude.{record_long, idle_device, StandsIn, all_join, IsRunOf, row_at, run_has, run_inside, run_untouched, ready_not_down, ready_by_table, IsIdle, idle_uncommitted, drained_is_idle, unflown, none_left, rest_not_given, flush_unflown, sync_unflown, test_of, some_is, first_waits, sync_tests, all_left, pieces_ended}
use Rattle.run_facts.specs.Prelude.{IsKept, IsKeptUp}
use Rattle.run_facts.proofs.Numbers.{NextAcked}
use Rattle.run_facts.proofs.RowsFacts.{units_of, next_on_data}
use Rattle.run_facts.proofs.Conditions.{room_at_device, ReadyData, data_ready, HasRecord, has_record, number_low, ReadyRecord, record_ready, ReadyCommit, commit_ready, finish_ready, events_fit}
use Rattle.run_facts.proofs.Apart.{none_given, fresh_taken, taken_fresh, batch_apart, AreOthers, others_apart, record_behind, data_no_target, record_no_target, not_given}

-- ---- what a flush covers isn't in flight

-- at the first flush no write in flight touches a unit of the batch
pub flush_covers : (s : State) (d : Disk) (b : Batch) → IsKept s d → is_ready Flush d.depth s ≡ true → s.batch ≡ Some b
    → AllByRecursion (λ f. IsUntouched d.flights f.unit) (all_fresh b.contexts)
flush_covers s d b kept ready is =
    let down : s.down ≡ None = ready_not_down s d.depth Flush refl ready in
    let first : is_not_sent b.first ≡ true = first_waits s d.depth b (ready_by_table s d.depth Flush down ready) is in
    taken_fresh (IsUntouched d.flights) b.contexts
    (λ u c. flush_unflown s d.flights b u (kept.up down).flights is first (none_given u s.pending (batch_apart s d kept down b is u c)))

-- and at the second none touches a unit of the record
pub sync_covers : (s : State) (d : Disk) (r : Begun) (j : ℕ) → IsKept s d → is_ready Sync d.depth s ≡ true → s.log.begun ≡ Some r
    → j < unit_count s.log.number r.ops → IsUntouched d.flights (active_unit s.log.sup + (s.log.tail + j))
sync_covers s d r j kept ready begun below =
    let down : s.down ≡ None = ready_not_down s d.depth Sync refl ready in
    let up : IsKeptUp s d = kept.up down in
    let by_table = ready_by_table s d.depth Sync down ready in
    let not_sent = (sync_tests s d.depth by_table).0 in
    let b = some_is (λ b. is_not_sent b.second) s.batch not_sent in
    sync_unflown s d.flights b.0 r (active_unit s.log.sup + (s.log.tail + j)) up.flights b.1 begun
    (test_of (λ b. is_not_sent b.second) s.batch b.0 b.1 not_sent) (pieces_ended s d.depth r by_table begun)
    (not_given s d kept down j (within s.log.tail j (unit_count s.log.number r.ops) s.log.sup.half below (record_behind s d kept down r begun)))
  where
    within : (tail j units half : ℕ) → j < units → tail + units ≤ half → tail + j < half
    within tail j units half lt le = omega (arith, lt, le)

-- ---- the device takes one more submission where one is ready

pub known_data_room : (s : State) (d : Disk) → IsKept s d → is_ready Data d.depth s ≡ true → length d.flights < d.depth
known_data_room s d kept ready = room_at_device s d kept.always
    (and_parts _ (nat_lt (length s.flying) d.depth) (ready_by_table s d.depth Data (ready_not_down s d.depth Data refl ready) ready)).1

pub known_flush_room : (s : State) (d : Disk) → IsKept s d → is_ready Flush d.depth s ≡ true → length d.flights < d.depth
known_flush_room s d kept ready = room_at_device s d kept.always
    (and_parts _ (nat_lt (length s.flying) d.depth) (ready_by_table s d.depth Flush (ready_not_down s d.depth Flush refl ready) ready)).1

pub known_record_room : (s : State) (d : Disk) → IsKept s d → is_ready Record d.depth s ≡ true → length d.flights < d.depth
known_record_room s d kept ready = room_at_device s d kept.always
    (and_parts _ (nat_lt (length s.flying) d.depth) (ready_by_table s d.depth Record (ready_not_down s d.depth Record refl ready) ready)).1

pub known_sync_room : (s : State) (d : Disk) → IsKept s d → is_ready Sync d.depth s ≡ true → length d.flights < d.depth
known_sync_room s d kept ready = room_at_device s d kept.always
    (and_parts _ (nat_lt (length s.flying) d.depth) (ready_by_table s d.depth Sync (ready_not_down s d.depth Sync refl ready) ready)).1

-- ---- each step

pub known_data : (s : State) (d : Disk) (n : Unsent) → IsKept s d → is_ready Data d.depth s ≡ true → next_unsent s.pending ≡ Some n → ReadyData s n
known_data s d n kept ready is = data_ready s n (kept.up (ready_not_down s d.depth Data refl ready)).room is

pub known_seal : (s : State) (d : Disk) (b : Batch) → IsKept s d → is_ready Seal d.depth s ≡ true → s.batch ≡ Some b → HasRecord s b
known_seal s d b kept ready is = has_record s d b kept.always (kept.up (ready_not_down s d.depth Seal refl ready)) is

pub known_record : (s : State) (d : Disk) (r : Begun) → IsKept s d → is_ready Record d.depth s ≡ true → s.log.begun ≡ Some r → ReadyRecord s r
known_record s d r kept ready is =
    let down : s.down ≡ None = ready_not_down s d.depth Record refl ready in
    record_ready s d r kept.always (kept.up down) (ready_by_table s d.depth Record down ready) is

pub known_commit : (s : State) (d : Disk) (b : Batch) → IsKept s d → is_ready Commit d.depth s ≡ true → s.batch ≡ Some b → ReadyCommit s b
known_commit s d b kept ready is =
    let down : s.down ≡ None = ready_not_down s d.depth Commit refl ready in
    commit_ready s d b (kept.up down) (ready_by_table s d.depth Commit down ready) is

pub known_batch : (s : State) (d : Disk) (b : Batch) → IsKept s d → s.down ≡ None → s.batch ≡ Some b → HasRecord s b
known_batch s d b kept down is = has_record s d b kept.always (kept.up down) is

pub known_finish : (s : State) (d : Disk) → IsKept s d → is_ready Finish d.depth s ≡ true
    → (s.acked < length s.book.commits) × NextAcked s.book.commits s.acked
known_finish s d kept ready =
    finish_ready s d kept.always (ready_by_table s d.depth Finish (ready_not_down s d.depth Finish refl ready) ready)

pub known_events : (s : State) (d : Disk) → IsKept s d → s.events + 1 < 2 ^ 64
known_events s d kept = events_fit s d kept.always

-- a drained kernel has nothing under way, and each commit is acknowledged
pub known_idle : (s : State) (d : Disk) → IsKept s d → s.down ≡ None → is_drained d.depth s ≡ true → IsIdle s
known_idle s d kept down drained = drained_is_idle s d kept.always.device.depth (kept.up down).flights down drained

-- ---- the next data write

-- no unit of it is in flight
pub data_untouched : (s : State) (d : Disk) (n : Unsent) → IsKept s d → is_ready Data d.depth s ≡ true → next_unsent s.pending ≡ Some n
    → (k : ℕ) → n.first.unit ≤ k → k < n.first.unit + length (unsent_units n) → IsUntouched d.flights k
data_untouched s d n kept ready is = row_at (IsUntouched d.flights) n.first.unit (unsent_units n) at.holds.row (each (unsent_units n) on own none)
  where
    down : s.down ≡ None
    down = ready_not_down s d.depth Data refl ready

    known : ReadyData s n
    known = known_data s d n kept ready is

    at : StandsIn (λ x. IsRunOf x n) s.pending
    at = known.at

    x : Context
    x = at.item

    on : AllByRecursion (λ f. IsDataUnit s.log.sup f.unit) (unsent_units n)
    on = next_on_data s d kept down n is

    own : AllByRecursion (λ f. Contains (units_of x.fresh) f.unit) (unsent_units n)
    own = run_has x n at.holds (λ f. Contains (units_of x.fresh) f.unit) (fresh_taken (Contains (units_of x.fresh)) x.fresh (λ u c. c))

    none : AllByRecursion (λ f. IsNone (take x.given x.fresh) f.unit) (unsent_units n)
    none = all_left (λ f. IsNone (take x.given x.fresh) f.unit) (unsent_units n) (drop (x.given + length (unsent_units n)) x.fresh)
        (subst (λ (fs : List FreshUnit). AllByRecursion (λ f. IsNone (take x.given x.fresh) f.unit) fs) at.holds.left (none_left x known.fits))

    spared : (u : ℕ) → Contains (units_of x.fresh) u → IsNone (take x.given x.fresh) u → AllByRecursion (λ y. IsNone (take y.given y.fresh) u) s.pending
    spared u c mine =
        let others : AreOthers s d kept down at.front at.back u = others_apart s d kept down at.front x at.back at.is u c in
        subst (AllByRecursion (λ y. IsNone (take y.given y.fresh) u)) (sym at.is)
        (all_join (λ y. IsNone (take y.given y.fresh) u) at.front (x ∷ at.back) (none_given u at.front others.ahead) (mine, none_given u at.back others.behind))

    each : (fs : List FreshUnit) → AllByRecursion (λ f. IsDataUnit s.log.sup f.unit) fs → AllByRecursion (λ f. Contains (units_of x.fresh) f.unit) fs
        → AllByRecursion (λ f. IsNone (take x.given x.fresh) f.unit) fs → AllByRecursion (λ f. IsUntouched d.flights f.unit) fs
    each [] a b c = tt
    each (f ∷ fs) a b c = (
      unflown s.log s.pending s.flying d.flights f.unit (kept.up down).flights.touches (data_no_target s d kept down f.unit a.0 (spared f.unit b.0 c.0)),
      each fs a.1 b.1 c.1,
    )

pub next_data_untouched : (s : State) (d : Disk) (n : Unsent) → IsKept s d → is_ready Data d.depth s ≡ true → next_unsent s.pending ≡ Some n
    → IsNotInFlight d n.first.unit (length (run_bytes (unsent_units n)))
next_data_untouched s d n kept ready is =
    subst (λ (size : ℕ). IsNotInFlight d n.first.unit size) (sym (known_data s d n kept ready is).size)
    (run_untouched d.flights n.first.unit (length (unsent_units n)) (omega arith) (data_untouched s d n kept ready is))

-- it lies on the device
pub data_inside : (s : State) (d : Disk) (n : Unsent) → IsKept s d → is_ready Data d.depth s ≡ true → next_unsent s.pending ≡ Some n
    → 4096 * n.first.unit + length (run_bytes (unsent_units n)) ≤ 4096 * d.units
data_inside s d n kept ready is =
    let down : s.down ≡ None = ready_not_down s d.depth Data refl ready in
    let known : ReadyData s n = known_data s d n kept ready is in
    subst (λ (units : ℕ). 4096 * n.first.unit + length (run_bytes (unsent_units n)) ≤ 4096 * units) kept.always.units
    (run_inside (known.at).item n (known.at).holds s.log.sup known.fits (next_on_data s d kept down n is))

-- ---- the next piece of a record

-- where it lies in its record
pub piece_lies : (s : State) (d : Disk) (r : Begun) → IsKept s d → is_ready Record d.depth s ≡ true → s.log.begun ≡ Some r
    → LiesInRecord (unit_count s.log.number r.ops) r.given
piece_lies s d r kept ready is = lies (unit_count s.log.number r.ops) r.given (known_record s d r kept ready is).more

pub piece_size : (s : State) (d : Disk) (r : Begun) → IsKept s d → is_ready Record d.depth s ≡ true → s.log.begun ≡ Some r
    → length (begun_piece_bytes s.log.number r) ≡ 4096 * piece_units (unit_count s.log.number r.ops) r.given
piece_size s d r kept ready is = record_long s.log.number r (known_record s d r kept ready is).more

-- no unit of what isn't given yet of the record is in flight
pub record_untouched : (s : State) (d : Disk) (r : Begun) → IsKept s d → is_ready Record d.depth s ≡ true → s.log.begun ≡ Some r
    → (j : ℕ) → j < given_from (unit_count s.log.number r.ops) r.given → IsUntouched d.flights (active_unit s.log.sup + (s.log.tail + j))
record_untouched s d r kept ready is =
    let down : s.down ≡ None = ready_not_down s d.depth Record refl ready in
    let known : ReadyRecord s r = known_record s d r kept ready is in
    λ j below.
    unflown s.log s.pending s.flying d.flights (active_unit s.log.sup + (s.log.tail + j)) (kept.up down).flights.touches
    (record_no_target s d kept down known.batch known.is_open j
    (within s.log.tail j _ (unit_count s.log.number r.ops) s.log.sup.half below (given_within (unit_count s.log.number r.ops) r.given) known.room)
    (subst (λ (o : Option Begun). IfSome o (λ k. ¬ IsGivenPiece s.log k (active_unit s.log.sup + (s.log.tail + j)))) (sym is) (rest_not_given s.log r j below)))
  where
    given_within : (units given : ℕ) → given_from units given ≤ units
    given_within units given = omega arith

    within : (tail j from units half : ℕ) → j < from → from ≤ units → tail + units ≤ half → tail + j < half
    within tail j from units half lt le room = omega (arith, lt, le, room)

pub next_piece_untouched : (s : State) (d : Disk) (r : Begun) → IsKept s d → is_ready Record d.depth s ≡ true → s.log.begun ≡ Some r
    → IsNotInFlight d (piece_unit s.log r) (length (begun_piece_bytes s.log.number r))
next_piece_untouched s d r kept ready is =
    let units : ℕ = unit_count s.log.number r.ops in
    let first : ℕ = piece_first units r.given in
    let lying : LiesInRecord units r.given = piece_lies s d r kept ready is in
    subst (λ (size : ℕ). IsNotInFlight d (piece_unit s.log r) size) (sym (piece_size s d r kept ready is))
    (run_untouched d.flights (piece_unit s.log r) (piece_units units r.given) lying.some
    (λ k from to.
    let place = in_record k (active_unit s.log.sup) s.log.tail first (piece_units units r.given) (given_from units r.given) lying.ends from to in
    subst (λ (u : ℕ). IsUntouched d.flights u) (sym place.1.0) (record_untouched s d r kept ready is place.0 place.1.1)))
  where
    in_record : (k active tail first count end : ℕ) → first + count ≡ end → active + tail + first ≤ k → k < active + tail + first + count
        → (j : ℕ) × ((k ≡ active + (tail + j)) × (j < end))
    in_record k active tail first count end is from to = (k - (active + tail), (omega (arith, from), omega (arith, is, from, to)))

-- ---- for the laws

pub idle_pending : (s : State) (d : Disk) → IsKept s d → s.down ≡ None → is_drained d.depth s ≡ true → s.pending ≡ []
idle_pending s d kept up drained = (known_idle s d kept up drained).pending

pub idle_batch : (s : State) (d : Disk) → IsKept s d → s.down ≡ None → is_drained d.depth s ≡ true → s.batch ≡ None
idle_batch s d kept up drained = (known_idle s d kept up drained).batch

pub idle_switching : (s : State) (d : Disk) → IsKept s d → s.down ≡ None → is_drained d.depth s ≡ true → s.switching ≡ None
idle_switching s d kept up drained = (known_idle s d kept up drained).switching

pub idle_check : (s : State) (d : Disk) → IsKept s d → s.down ≡ None → is_drained d.depth s ≡ true → s.log.check ≡ None
idle_check s d kept up drained = (known_idle s d kept up drained).check

pub idle_reserved : (s : State) (d : Disk) → IsKept s d → s.down ≡ None → is_drained d.depth s ≡ true → s.log.reserved ≡ 0
idle_reserved s d kept up drained =
    (kept.up up).room.reserved ∙ ap (λ (xs : List Context). needs_by (intents xs)) (idle_uncommitted s (known_idle s d kept up drained))

pub idle_disk : (s : State) (d : Disk) → IsKept s d → s.down ≡ None → is_drained d.depth s ≡ true → d.flights ≡ []
idle_disk s d kept up drained = idle_device s.flying d.flights kept.always.flights (known_idle s d kept up drained).flying

pub idle_acked : (s : State) (d : Disk) → IsKept s d → s.down ≡ None → is_drained d.depth s ≡ true → s.acked ≡ length s.book.commits
idle_acked s d kept up drained =
    let idle : IsIdle s = known_idle s d kept up drained in
    all s.acked (length s.book.commits) (applied_count s) kept.always.book.within idle.applied
    (ap (λ (o : Option Batch). length s.book.commits - option_map_or (λ (b : Batch). length b.contexts) o 0) idle.batch)
  where
    all : (acked commits applied : ℕ) → acked ≤ applied → applied ≤ acked → applied ≡ commits - 0 → acked ≡ commits
    all acked commits applied le ge is = omega (arith, le, ge, is)

pub few_units : (s : State) (d : Disk) (n : Unsent) → IsKept s d → is_ready Data d.depth s ≡ true → next_unsent s.pending ≡ Some n
    → (0 < length (unsent_units n)) × (length (unsent_units n) ≤ 64)
few_units s d n kept ready is = (omega arith, ((known_data s d n kept ready is).at).holds.short)

pub whole_units : (s : State) (d : Disk) (n : Unsent) → IsKept s d → is_ready Data d.depth s ≡ true → next_unsent s.pending ≡ Some n
    → length (run_bytes (unsent_units n)) ≡ 4096 * length (unsent_units n)
whole_units s d n kept ready is = (known_data s d n kept ready is).size

pub record_fits : (s : State) (d : Disk) (b : Batch) → IsKept s d → is_ready Seal d.depth s ≡ true → s.batch ≡ Some b
    → s.log.tail + unit_count s.log.number (batch_ops b) ≤ s.log.sup.half
record_fits s d b kept ready is = (known_seal s d b kept ready is).room

pub record_spelled : (s : State) (d : Disk) (b : Batch) → IsKept s d → is_ready Seal d.depth s ≡ true → s.batch ≡ Some b
    → AllFit (batch_ops b) × (length (ops_bytes (batch_ops b)) < 2 ^ 32)
record_spelled s d b kept ready is = let k = known_seal s d b kept ready is in (k.fit, k.body)

pub record_number : (s : State) (d : Disk) (b : Batch) → IsKept s d → is_ready Seal d.depth s ≡ true → s.batch ≡ Some b → s.log.number < 2 ^ 62
record_number s d b kept ready is = number_low s d kept.always

pub ruleset idle_laws = (idle_pending, idle_batch, idle_switching, idle_check, idle_reserved, idle_disk, idle_acked)

pub ruleset room_laws = (few_units, whole_units, data_inside, record_fits, record_spelled, record_number, known_events)
