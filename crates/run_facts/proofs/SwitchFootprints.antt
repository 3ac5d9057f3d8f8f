-- The footprints of the steps of a switch of halves: Take where it opens a checkpoint, CheckWrite, CheckFlush, SlotWrite, SlotFlush, Switch.
use Rattle.std.proofs.Common.{◌≡◌, ◌⊎◌, ℕ, zero, suc, ◌+◌, ◌*◌, ◌^◌, ◌<◌, ◌≤◌, ◌||◌, ◌&&◌, not, nat_lt, Bool, true, false, List, [], ◌∷◌, length, drop, slice_get, Option, Some, None, refl, sym, ap, subst, ◌∙◌, arith}
use Rattle.run_facts.proofs.Common.{Begun, Disk, FlushState, ops_bytes, is_flushed, same_Some}
use Rattle.std.proofs.lemmas.Bool.{le-ltb}
use Rattle.std.proofs.Math.Path.{fun_ext}
use Rattle.std.proofs.Math.Seq.{drop-length}
use Rattle.meta_rows.specs.Prelude.{row_sets, rows_size}
use Rattle.meta_rows.proofs.SetLemmas.{row_sets_size, rows_fit}
use Rattle.meta_log.specs.declared.runs.UnitRun.{UnitRun}
use Rattle.meta_log.specs.Prelude.{in_runs, check_units, other_unit, other_slot, next_super, super_bytes, front_run}
use Rattle.meta_log.proofs.SlotLemmas.{length-super_bytes}
use Rattle.meta_store.specs.Store.{Checking}
use Rattle.log_facts.specs.Prelude.{flushed, IsSpellable}
use Rattle.switch_facts.specs.Prelude.{written}
use Rattle.switch_facts.specs.OtherGoes as other
use Rattle.switch_facts.proofs.Covers.{pieces_cover, one_less}
use Rattle.store_steps.specs.declared.flight.FlushState.TheVariants as flush
use Rattle.store_steps.specs.declared.flight.Job.TheVariants as job
use Rattle.store_steps.specs.declared.step.Step.TheVariants as step
use Rattle.meta_store.specs.Checks as checks
use Rattle.store_steps.specs.declared.flight.Switching.{Switching}
use Rattle.store_steps.specs.Prelude.{Batch, State, second_flush, check_pieces, is_ready, is_not_sent, check_begun, check_sent, check_flush_sent, slot_sent, slot_flush_sent, switched, OpensCheck, DoesCheckWrite, DoesCheckFlush, DoesSlotWrite, DoesSlotFlush, DoesSwitch, flush_of, slot_phase, begun_ops, submitted_from, rows_units, other_check, other_part, rows_part, half_part, Adds, nothing, flushes, on_other, on_slot, Footprint}
use Rattle.store_steps.specs.RowsGo as rows
use Rattle.store_steps.specs.DataGoes as units
use Rattle.store_steps.specs.HalfGoes as half
use Rattle.store_steps.specs.BookGoes as book
use Rattle.space_facts.proofs.Prelude.{rows_units-bytes, check_units_are}
use Rattle.flight_facts.specs.Prelude.{FlightsMatch}
use Rattle.flight_facts.proofs.Prelude.{ready_not_down, ready_by_table, rests_switch, rests_batch, IsSwitchOpen, switch_open, ended_to_flush, ended_to_slot, ended_all, not_sent_is, ended_flushed, check_left_flush, check_flush_slot, slot_left_flush, some_is, test_of, check_flush_tests, runs_ended, slot_tests, slot_flush_tests, check_unflown, slot_flush_unflown}
use Rattle.run_facts.specs.Prelude.{HasRoom, IsKept}
use Rattle.run_facts.proofs.Conditions.{take_none, number_low, next_limits}
use Rattle.run_facts.proofs.Apart.{other_not_given, slot_not_given}
use Rattle.run_facts.proofs.PartsKept.{check_part, other_alone}

-- nothing is known of a checkpoint without a switch
pub none_open : (pieces : List UnitRun) (o : Option Checking) → other_check pieces o None ≡ None
none_open pieces None = refl
none_open pieces (Some c) = refl

-- the device has no part in it
still : (d d' : Disk) → d' ≡ d → Adds nothing d d'
still d d' same = (ap (λ (e : Disk). e.history) same, ap (λ (e : Disk). e.flights) same)

-- ---- a checkpoint is opened

module _ (s : State) (d : Disk) (kept : IsKept s d) (up : s.down ≡ None) where
  abbrev room : HasRoom (rows_part s)
  room = (kept.up up).room

  -- the rows fit a half
  rows_fit_half : rows_units s.log.rows ≤ s.log.sup.half
  rows_fit_half = front (rows_units s.log.rows) s.log.reserved s.log.sup.half room.room
    where
      front : (units reserved half : ℕ) → units + reserved ≤ half → units ≤ half
      front units reserved half le = omega (arith, le)

  pub check_fits : check_units s.log.number s.log.rows ≤ s.log.sup.half
  check_fits = subst (λ (n : ℕ). n ≤ s.log.sup.half) (sym (check_units_are s.log.number s.log.rows)) rows_fit_half

  -- their record has a spelling
  pub check_spelled : IsSpellable s.log.number (row_sets s.log.rows)
  check_spelled = record {
    number_below = number_low s d kept.always;
    body_below = short (length (ops_bytes (row_sets s.log.rows))) (rows_size s.log.rows) (rows_units s.log.rows) s.log.sup.half
        (row_sets_size s.log.rows) (rows_units-bytes s.log.rows) rows_fit_half kept.always.limits.half_most;
    fit = rows_fit s.log.rows room.spelled;
  }
    where
      short : (body size units half : ℕ) → body ≡ size → size ≤ 4096 * units → units ≤ half → half ≤ 65536 → body < 2 ^ 32
      short body size units half is le fits most = omega (arith, is, le, fits, most)

begin_footprint_of : (s : State) (d d' : Disk) → IsKept s d → s.down ≡ None → s.switching ≡ None → d' ≡ d → Footprint s d (check_begun s) d'
begin_footprint_of s d d' kept up rests same =
    let none : s.log.check ≡ None = (rests_switch s d.flights (kept.up up).flights rests).0 in
    let left : ℕ → Bool = in_runs (drop 0 (check_pieces s.log)) in
    other_alone s d (check_begun s) d' nothing (still d d' same) tt tt tt (omega arith) refl refl refl
    (other.begins left (ap (λ (p : Option Switching). other_check (check_pieces s.log) s.log.check p) rests ∙ none_open (check_pieces s.log) s.log.check)
    (check_spelled s d kept up) (check_fits s d kept up)
    (λ k below out. pieces_cover (check_units s.log.number s.log.rows) s.log.stale k out) refl) refl

pub begin_footprint : (s : State) (d : Disk) (s' : State) (d' : Disk) → IsKept s d → is_ready step.Take d.depth s ≡ true → OpensCheck s d s' d'
    → Footprint s d s' d'
begin_footprint s d s' d' kept ready does =
    let up : s.down ≡ None = ready_not_down s d.depth step.Take refl ready in
    subst (λ (t : State). Footprint s d t d') (sym does.after)
    (begin_footprint_of s d d' kept up (take_none s d.depth (ready_by_table s d.depth step.Take up ready)).1 does.same)

-- ---- its pieces

-- the next one stands in front of those that are left
next_of : (pieces : List UnitRun) (n : ℕ) (run : UnitRun) → slice_get pieces n ≡ Some run → drop n pieces ≡ run ∷ drop (suc n) pieces
next_of [] n run is = absurd (cc)
next_of (r ∷ rs) zero run is = ap (λ (x : UnitRun). x ∷ rs) (same_Some r run is)
next_of (r ∷ rs) (suc n) run is = next_of rs n run is

left_then : (pieces : List UnitRun) (n : ℕ) (run : UnitRun) (k : ℕ) → slice_get pieces n ≡ Some run → in_runs (drop (n + 1) pieces) k ≡ false
    → (in_runs (drop n pieces) k ≡ false) ⊎ ((run.first ≤ k) × (k < run.first + run.count))
left_then pieces n run k is out = subst (λ (runs : List UnitRun). (in_runs runs k ≡ false) ⊎ ((run.first ≤ k) × (k < run.first + run.count)))
    (sym (next_of pieces n run is)) (one_less run (drop (suc n) pieces) k (subst (λ (m : ℕ). in_runs (drop m pieces) k ≡ false) (next n) out))
  where
    next : (n : ℕ) → n + 1 ≡ suc n
    next n = omega arith

-- of a state with this checkpoint and this switch
abbrev with_both : State → Checking → Switching → State
with_both s c w = record s { log = record s.log { check = Some c }; switching = Some w }

-- what is so of it is so of one that has them
of_both : (s : State) (c : Checking) (w : Switching) → s.log.check ≡ Some c → s.switching ≡ Some w → (P : State → Type 0) → P (with_both s c w) → P s
of_both s c w check has P holds =
    subst (λ (o : Option Checking). let t : State = record s { log = record s.log { check = o } } in P t) (sym check)
    (subst (λ (p : Option Switching). let t : State = record s { log = record s.log { check = Some c }; switching = p } in P t) (sym has) holds)

pub check_footprint : (s : State) (d : Disk) (s' : State) (d' : Disk) → IsKept s d → is_ready step.CheckWrite d.depth s ≡ true → DoesCheckWrite s d s' d'
    → Footprint s d s' d'
check_footprint s d s' d' kept ready does =
    let up : s.down ≡ None = ready_not_down s d.depth step.CheckWrite refl ready in
    let c : Checking = does.checking in
    let run : UnitRun = does.run in
    let at : ℕ = other_unit s.log.sup + run.first in
    let far = check_left_flush s d.flights d.depth c (kept.up up).flights (ready_by_table s d.depth step.CheckWrite up ready) does.begun in
    let w : Switching = far.0 in
    subst (λ (t : State). Footprint s d t d') (sym does.after)
    (of_both s c w does.begun far.1 (λ t. Footprint t d (check_sent c does.ticket t) d')
    (other_alone (with_both s c w) d _ d' (on_other does.ticket.place at does.bytes) does.submitted
    (inside (other_unit s.log.sup) run.first run.count s.log.sup.half (length does.bytes) does.target.size does.within) tt tt refl refl refl refl
    (other.gives at does.bytes (record {
      now = check_part s.log c w;
      opened = refl;
      flush = far.2;
      slot = ap (λ (f : FlushState). slot_phase f w.slot_flush) far.3;
      from = run.first;
      count = run.count;
      place = refl;
      size = does.target.size;
      as_target = does.target.each;
      left = in_runs (drop (c.given + 1) (check_pieces s.log));
      given = λ k below out. left_then (check_pieces s.log) c.given run k does.is_next out;
      then = refl;
    })) refl))
  where
    inside : (other first count half size : ℕ) → size ≡ 4096 * count → first + count ≤ half
        → (other ≤ other + first) × (4096 * (other + first) + size ≤ 4096 * (other + half))
    inside other first count half size is le = (omega arith, omega (arith, is, le))

pub check_flush_footprint : (s : State) (d : Disk) (s' : State) (d' : Disk) → IsKept s d → is_ready step.CheckFlush d.depth s ≡ true
    → DoesCheckFlush s d s' d' → Footprint s d s' d'
check_flush_footprint s d s' d' kept ready does =
    let up : s.down ≡ None = ready_not_down s d.depth step.CheckFlush refl ready in
    let table = ready_by_table s d.depth step.CheckFlush up ready in
    let m : FlightsMatch s d.flights = (kept.up up).flights in
    let w : Switching = does.switching in
    let opened : IsSwitchOpen s w = switch_open s d.flights w m does.begun in
    let c : Checking = opened.checking in
    let first : is_not_sent w.flush ≡ true = test_of (λ v. is_not_sent v.flush) s.switching w does.begun (check_flush_tests s d.depth table).0 in
    subst (λ (t : State). Footprint s d t d') (sym does.after)
    (of_both s c w opened.check does.begun (λ t. Footprint t d (check_flush_sent w does.ticket t) d')
    (other_alone (with_both s c w) d _ d' (flushes does.ticket.place) does.submitted tt tt tt refl refl refl refl
    (other.flushes (check_part s.log c w) refl (ap flush_of (not_sent_is w.flush first))
    (ap (λ (f : FlushState). slot_phase f w.slot_flush) (check_flush_slot s d.flights w m does.begun first))
    (λ k below. check_unflown s d.flights w c (other_unit s.log.sup + k) m does.begun opened.check first (runs_ended s d.depth c table opened.check)
    (other_not_given s d kept up k below)) refl) refl))

-- ---- the slot

-- nothing is left of pieces that were given
none_left_of : (pieces : List UnitRun) (given : ℕ) → given ≡ length pieces → (k : ℕ) → in_runs (drop given pieces) k ≡ false
none_left_of pieces given all k = ap (λ (n : ℕ). in_runs (drop n pieces) k) all ∙ ap (λ (runs : List UnitRun). in_runs runs k) (drop-length pieces)

pub slot_footprint : (s : State) (d : Disk) (s' : State) (d' : Disk) → IsKept s d → is_ready step.SlotWrite d.depth s ≡ true → DoesSlotWrite s d s' d'
    → Footprint s d s' d'
slot_footprint s d s' d' kept ready does =
    let up : s.down ≡ None = ready_not_down s d.depth step.SlotWrite refl ready in
    let m : FlightsMatch s d.flights = (kept.up up).flights in
    let w : Switching = does.switching in
    let tests = slot_tests s d.depth w (ready_by_table s d.depth step.SlotWrite up ready) does.begun in
    let opened : IsSwitchOpen s w = switch_open s d.flights w m does.begun in
    let c : Checking = opened.checking in
    let ended = ended_to_flush s w opened tests.0 in
    let next : List ℕ = super_bytes (next_super s.log.sup s.log.number) in
    let behind : w.slot_flush ≡ flush.NotSent = slot_left_flush s d.flights w m does.begun tests.1 in
    subst (λ (t : State). Footprint s d t d') (sym does.after)
    (of_both s c w opened.check does.begun (λ t. Footprint t d (slot_sent w does.ticket t) d')
    (other_alone (with_both s c w) d _ d' (on_slot does.ticket.place (other_slot s.log.sup) next) does.submitted
    (refl, length-super_bytes (next_super s.log.sup s.log.number)) tt tt refl refl refl refl
    (other.writes_slot (check_part s.log c w) refl (ap flush_of (ended_flushed job.CheckFlush w.flush ended.1.0))
    (ap (λ (f : FlushState). slot_phase f w.slot_flush) (not_sent_is w.slot tests.1))
    (λ k below. none_left_of (check_pieces s.log) c.given (ended.0).0 k) (next_limits s d kept.always)
    (ap (λ (f : FlushState). record (other_part (with_both s c w)) { check = Some (record (check_part s.log c w) { slot = written (flush_of f) }) }) behind)) refl))

pub slot_flush_footprint : (s : State) (d : Disk) (s' : State) (d' : Disk) → IsKept s d → is_ready step.SlotFlush d.depth s ≡ true
    → DoesSlotFlush s d s' d' → Footprint s d s' d'
slot_flush_footprint s d s' d' kept ready does =
    let up : s.down ≡ None = ready_not_down s d.depth step.SlotFlush refl ready in
    let m : FlightsMatch s d.flights = (kept.up up).flights in
    let w : Switching = does.switching in
    let tests = slot_flush_tests s d.depth w (ready_by_table s d.depth step.SlotFlush up ready) does.begun in
    let opened : IsSwitchOpen s w = switch_open s d.flights w m does.begun in
    let c : Checking = opened.checking in
    let slot : w.slot ≡ flush.Flushed = ended_flushed job.Slot w.slot (ended_to_slot s w opened tests.0).1.1.0 in
    subst (λ (t : State). Footprint s d t d') (sym does.after)
    (of_both s c w opened.check does.begun (λ t. Footprint t d (slot_flush_sent w does.ticket t) d')
    (other_alone (with_both s c w) d _ d' (flushes does.ticket.place) does.submitted tt tt tt refl refl refl refl
    (other.flushes_slot (check_part s.log c w) refl
    (ap (λ (f : FlushState). slot_phase f w.slot_flush) slot ∙ ap (λ (f : FlushState). written (flush_of f)) (not_sent_is w.slot_flush tests.1))
    (slot_flush_unflown s d.flights w (other_slot s.log.sup) m does.begun tests.0 tests.1 (slot_not_given s d kept up))
    (ap (λ (f : FlushState). record (other_part (with_both s c w)) {
      check = Some (record (check_part s.log c w) { slot = slot_phase f (flush.Sent does.ticket) });
    }) slot)) refl))

-- ---- the halves change places

-- what was the log is stale
first_stale : (tail : ℕ) → in_runs (front_run tail) ≡ (λ k. nat_lt k tail)
first_stale tail = fun_ext (of_tail tail)
  where
    none : (a : ℕ) → nat_lt a 0 ≡ false
    none a = le-ltb a 0 (omega arith)

    plain : (a b : Bool) → a ≡ false → (not a && b) || false ≡ b
    plain false true is = refl
    plain false false is = refl
    plain true b is = absurd (cc)

    of_tail : (tail k : ℕ) → in_runs (front_run tail) k ≡ nat_lt k tail
    of_tail zero k = sym (none k)
    of_tail (suc n) k = plain (nat_lt k 0) (nat_lt k (0 + suc n)) (none k) ∙ ap (nat_lt k) (zero_first (suc n))
      where
        zero_first : (m : ℕ) → 0 + m ≡ m
        zero_first m = omega arith

pub switch_footprint : (s : State) (d : Disk) (s' : State) (d' : Disk) → IsKept s d → is_ready step.Switch d.depth s ≡ true → DoesSwitch s d s' d'
    → Footprint s d s' d'
switch_footprint s d s' d' kept ready does =
    let up : s.down ≡ None = ready_not_down s d.depth step.Switch refl ready in
    let table = ready_by_table s d.depth step.Switch up ready in
    let m : FlightsMatch s d.flights = (kept.up up).flights in
    let w = some_is (λ v. is_flushed v.slot_flush) s.switching table in
    let last : is_flushed w.0.slot_flush ≡ true = test_of (λ v. is_flushed v.slot_flush) s.switching w.0 w.1 table in
    let opened : IsSwitchOpen s w.0 = switch_open s d.flights w.0 m w.1 in
    let c : Checking = opened.checking in
    let ended = ended_all s w.0 opened last in
    let none : s.log.begun ≡ None = (rests_batch s d.flights m opened.batch).0 in
    let number' : ℕ = (checks.switched_log s.log).number in
    let slot : slot_phase w.0.slot w.0.slot_flush ≡ written flushed =
    ap (λ (f : FlushState). slot_phase f w.0.slot_flush) (ended_flushed job.Slot w.0.slot ended.1.1.0)
    ∙ ap (λ (f : FlushState). written (flush_of f)) (ended_flushed job.SlotFlush w.0.slot_flush ended.1.1.1.0) in
    subst (λ (t : State). Footprint s d t d') (sym does.after) (record {
      touch = nothing;
      device = still d d' does.same;
      placed = tt;
      counted = omega arith;
      rows = rows.switches s.log.number (next_limits s d kept.always)
          (ap (λ (n : ℕ). record (rows_part s) { sup = next_super s.log.sup s.log.number; tail = n }) (check_units_are s.log.number s.log.rows));
      units = units.switches s.log.number refl;
      half = half.switches (ap (λ (o : Option Begun). record (half_part (switched s)) { begun = begun_ops o; from = submitted_from number' o }) none
          ∙ ap (λ (o : Option Batch). record (half_part (switched s)) { begun = None; from = 0; second = second_flush o }) opened.batch);
      other = other.switches (check_part s.log c w.0)
          (ap (λ (o : Option Checking). other_check (check_pieces s.log) o s.switching) opened.check ∙ ap (other_check (check_pieces s.log) (Some c)) w.1) slot
          (ap (λ (is_stale : ℕ → Bool). record (other_part (switched s)) { is_stale = is_stale }) (first_stale s.log.tail));
      book = book.same refl;
      caused = record { ready = ready; does = record { after = refl; same = does.same } };
    })
