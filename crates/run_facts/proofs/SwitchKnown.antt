-- What a kernel that keeps its facts knows at the steps of a switch of halves.
use Rattle.std.proofs.Common.{◌≡◌, ℕ, zero, suc, ◌+◌, ◌-◌, ◌*◌, ◌<◌, ◌≤◌, ◌||◌, ◌&&◌, not, nat_lt, Bool, true, false, List, [], ◌∷◌, length, slice_get, Option, Some, None, IfSome, refl, sym, ap, subst, ◌∙◌, arith}
use Rattle.run_facts.proofs.Common.{AllByRecursion, Disk, IsUntouched, IsSuper, Begun, and_parts, ltb-true, same_Some, is_flushed}
use Rattle.std.proofs.lemmas.Bool.{lt-ltb}
use Rattle.block_device.specs.Prelude.{IsNotInFlight}
use Rattle.meta_rows.specs.Prelude.{row_sets}
use Rattle.meta_log.specs.declared.runs.UnitRun.{UnitRun}
use Rattle.meta_log.specs.Prelude.{in_run, in_runs, AreRunsFrom, check_units, other_unit, other_slot, next_super}
use Rattle.meta_store.specs.Store.{Checking}
use Rattle.log_facts.specs.Prelude.{IsSpellable}
use Rattle.switch_facts.specs.Prelude.{CheckPart, LiesInHalf, IsPieceOf, AreApart}
use Rattle.switch_facts.proofs.Apart.{pieces_fit, pieces_apart}
use Rattle.store_steps.specs.declared.step.Step.TheVariants.{CheckWrite, CheckFlush, SlotWrite, SlotFlush}
use Rattle.store_steps.specs.declared.flight.Switching.{Switching}
use Rattle.store_steps.specs.Prelude.{State, check_pieces, other_check, is_ready, is_not_sent}
use Rattle.flight_facts.specs.Prelude.{IsGivenPiece, IsGivenRun, FlightsMatch}
use Rattle.flight_facts.proofs.Prelude.{ready_not_down, ready_by_table, rests_batch, IsSwitchOpen, switch_open, check_switches, runs_left, in_run_at, some_is, test_of, check_flush_tests, runs_ended, slot_tests, slot_flush_tests, unflown, check_unflown, slot_unflown, slot_flush_unflown, run_untouched}
use Rattle.run_facts.specs.Prelude.{IsKept}
use Rattle.run_facts.proofs.Conditions.{next_limits}
use Rattle.run_facts.proofs.Apart.{other_not_given, slot_not_given}
use Rattle.run_facts.proofs.SwitchFootprints.{none_open, check_spelled, check_fits}

-- ---- runs that ascend

-- what lies before them is in none of them
before_runs : (from count : ℕ) (runs : List UnitRun) → AreRunsFrom from count runs → (k : ℕ) → k < from → in_runs runs k ≡ false
before_runs from count [] are k below = refl
before_runs from count (r ∷ rs) are k below =
    ap (λ (b : Bool). (not b && nat_lt k (r.first + r.count)) || in_runs rs k) (lt-ltb k r.first (lower k from r.first below are.0))
    ∙ before_runs (r.first + r.count) count rs are.3 k (later k from r.first r.count below are.0)
  where
    lower : (k from first : ℕ) → k < from → from ≤ first → k < first
    lower k from first lt le = omega (arith, lt, le)

    later : (k from first count : ℕ) → k < from → from ≤ first → k < first + count
    later k from first count lt le = omega (arith, lt, le)

runs_apart : (from count : ℕ) (runs : List UnitRun) → AreRunsFrom from count runs → AreApart runs
runs_apart from count [] are = tt
runs_apart from count (r ∷ rs) are =
    (λ k inside. before_runs (r.first + r.count) count rs are.3 k (below k inside), runs_apart (r.first + r.count) count rs are.3)
  where
    below : (k : ℕ) → in_run r k ≡ true → k < r.first + r.count
    below k inside = ltb-true k (r.first + r.count) (and_parts (not (nat_lt k r.first)) (nat_lt k (r.first + r.count)) inside).1

runs_in_half : (from count : ℕ) (runs : List UnitRun) → AreRunsFrom from count runs → AllByRecursion (LiesInHalf count) runs
runs_in_half from count [] are = tt
runs_in_half from count (r ∷ rs) are = (are.2, runs_in_half (r.first + r.count) count rs are.3)

-- one of them
each_is : (P : UnitRun → Type 0) (runs : List UnitRun) → AllByRecursion P runs → (n : ℕ) (run : UnitRun) → slice_get runs n ≡ Some run → P run
each_is P [] all n run is = absurd (cc)
each_is P (r ∷ rs) all zero run is = subst P (same_Some r run is) all.0
each_is P (r ∷ rs) all (suc n) run is = each_is P rs all.1 n run is

-- ---- a checkpoint can be written

module _ (s : State) (d : Disk) (kept : IsKept s d) (up : s.down ≡ None) where
  pub checks_fit : check_units s.log.number s.log.rows ≤ s.log.sup.half
  checks_fit = check_fits s d kept up

  pub checks_spelled : IsSpellable s.log.number (row_sets s.log.rows)
  checks_spelled = check_spelled s d kept up

  pub checks_follow : IsSuper (next_super s.log.sup s.log.number)
  checks_follow = next_limits s d kept.always

  pub checks_lie : AllByRecursion (IsPieceOf s.log.sup.half) (check_pieces s.log)
  checks_lie = pieces_fit s.log.sup.half (check_units s.log.number s.log.rows) s.log.stale checks_fit
      (runs_in_half 0 s.log.sup.half s.log.stale (kept.up up).stale)

  pub checks_apart : AreApart (check_pieces s.log)
  checks_apart = pieces_apart (check_units s.log.number s.log.rows) s.log.stale (runs_apart 0 s.log.sup.half s.log.stale (kept.up up).stale)

-- ---- what is written next isn't in flight

pub next_run_untouched : (s : State) (d : Disk) (c : Checking) (run : UnitRun) → IsKept s d → is_ready CheckWrite d.depth s ≡ true → s.log.check ≡ Some c
    → slice_get (check_pieces s.log) c.given ≡ Some run → IsNotInFlight d (other_unit s.log.sup + run.first) (4096 * run.count)
next_run_untouched s d c run kept ready begun is =
    run_untouched d.flights (other_unit s.log.sup + run.first) run.count piece.some
    (λ k from to. subst (IsUntouched d.flights) (sym (place (other_unit s.log.sup) run.first k from))
    (each (k - other_unit s.log.sup) (first (other_unit s.log.sup) run.first k from) (last (other_unit s.log.sup) run.first run.count k from to)))
  where
    up : s.down ≡ None
    up = ready_not_down s d.depth CheckWrite refl ready

    m : FlightsMatch s d.flights
    m = (kept.up up).flights

    piece : IsPieceOf s.log.sup.half run
    piece = each_is (IsPieceOf s.log.sup.half) (check_pieces s.log) (checks_lie s d kept up) c.given run is

    place : (other first k : ℕ) → other + first ≤ k → k ≡ other + (k - other)
    place other begin k from = omega (arith, from)

    first : (other first k : ℕ) → other + first ≤ k → first ≤ k - other
    first other begin k from = omega (arith, from)

    last : (other first count k : ℕ) → other + first ≤ k → k < other + first + count → k - other < first + count
    last other begin count k from to = omega (arith, from, to)

    none_begun : s.log.begun ≡ None
    none_begun = (rests_batch s d.flights m (switch_open s d.flights (check_switches s d.flights c m begun).0 m (check_switches s d.flights c m begun).1).batch).0

    each : (j : ℕ) → run.first ≤ j → j < run.first + run.count → IsUntouched d.flights (other_unit s.log.sup + j)
    each j from to = unflown s.log s.pending s.flying d.flights (other_unit s.log.sup + j) m.touches (record {
      waiting = other_not_given s d kept up j (below j run.first run.count s.log.sup.half to piece.within);
      piece = subst (λ (o : Option Begun). IfSome o (λ r. ¬ IsGivenPiece s.log r (other_unit s.log.sup + j))) (sym none_begun) tt;
      run = subst (λ (o : Option Checking). IfSome o (λ k. ¬ IsGivenRun s.log k (other_unit s.log.sup + j))) (sym begun)
          (runs_left s.log c run j (checks_apart s d kept up) is (in_run_at run j from to));
      slot = λ same. never (other_unit s.log.sup) j (other_slot s.log.sup) same (omega arith) (omega arith);
    })
      where
        below : (j first count half : ℕ) → j < first + count → first + count ≤ half → j < half
        below j begin count half lt le = omega (arith, lt, le)

        never : (other j slot : ℕ) → other + j ≡ slot → 2 ≤ other → slot < 2 → ⊥
        never other j slot is low lt = omega (arith, is, low, lt)

-- one unit
unit_untouched : (d : Disk) (unit : ℕ) → IsUntouched d.flights unit → IsNotInFlight d unit 4096
unit_untouched d unit free = run_untouched d.flights unit 1 (omega arith) (λ k from to. subst (IsUntouched d.flights) (same unit k from to) free)
  where
    same : (unit k : ℕ) → unit ≤ k → k < unit + 1 → unit ≡ k
    same unit k from to = omega (arith, from, to)

pub next_slot_untouched : (s : State) (d : Disk) → IsKept s d → is_ready SlotWrite d.depth s ≡ true → IsNotInFlight d (other_slot s.log.sup) 4096
next_slot_untouched s d kept ready =
    let up : s.down ≡ None = ready_not_down s d.depth SlotWrite refl ready in
    let table = ready_by_table s d.depth SlotWrite up ready in
    let w = some_is (λ w. is_flushed w.flush && is_not_sent w.slot) s.switching
    (and_parts _ (nat_lt (length s.flying) d.depth) table).0 in
    let tests = slot_tests s d.depth w.0 table w.1 in
    unit_untouched d (other_slot s.log.sup)
    (slot_unflown s d.flights w.0 (other_slot s.log.sup) (kept.up up).flights w.1 tests.0 tests.1 (slot_not_given s d kept up))

-- ---- what a flush covers isn't in flight

pub check_covers : (s : State) (d : Disk) (k : ℕ) → IsKept s d → is_ready CheckFlush d.depth s ≡ true → k < s.log.sup.half
    → IsUntouched d.flights (other_unit s.log.sup + k)
check_covers s d k kept ready below =
    let up : s.down ≡ None = ready_not_down s d.depth CheckFlush refl ready in
    let table = ready_by_table s d.depth CheckFlush up ready in
    let tests = check_flush_tests s d.depth table in
    let w = some_is (λ w. is_not_sent w.flush) s.switching tests.0 in
    let opened : IsSwitchOpen s w.0 = switch_open s d.flights w.0 (kept.up up).flights w.1 in
    check_unflown s d.flights w.0 opened.checking (other_unit s.log.sup + k) (kept.up up).flights w.1 opened.check
    (test_of (λ v. is_not_sent v.flush) s.switching w.0 w.1 tests.0) (runs_ended s d.depth opened.checking table opened.check)
    (other_not_given s d kept up k below)

pub slot_covers : (s : State) (d : Disk) → IsKept s d → is_ready SlotFlush d.depth s ≡ true → IsUntouched d.flights (other_slot s.log.sup)
slot_covers s d kept ready =
    let up : s.down ≡ None = ready_not_down s d.depth SlotFlush refl ready in
    let table = ready_by_table s d.depth SlotFlush up ready in
    let w = some_is (λ w. is_flushed w.slot && is_not_sent w.slot_flush) s.switching
    (and_parts _ (nat_lt (length s.flying) d.depth) table).0 in
    let tests = slot_flush_tests s d.depth w.0 table w.1 in
    slot_flush_unflown s d.flights w.0 (other_slot s.log.sup) (kept.up up).flights w.1 tests.0 tests.1 (slot_not_given s d kept up)

-- while a checkpoint is known, no record is made
pub checking_none : (s : State) (d : Disk) → IsKept s d → s.down ≡ None → (pieces : List UnitRun) (c : CheckPart)
    → other_check pieces s.log.check s.switching ≡ Some c → s.log.begun ≡ None
checking_none s d kept up pieces c is = of_switching s.switching refl is
  where
    of_switching : (o : Option Switching) → s.switching ≡ o → other_check pieces s.log.check o ≡ Some c → s.log.begun ≡ None
    of_switching None e known = absurd (let none : None ≡ Some c = sym (none_open pieces s.log.check) ∙ known in cc)
    of_switching (Some w) e known = (rests_batch s d.flights (kept.up up).flights (switch_open s d.flights w (kept.up up).flights e).batch).0
