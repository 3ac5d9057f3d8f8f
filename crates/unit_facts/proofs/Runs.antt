-- Runs of calls from a store that was just opened, and what is known when they are over.
use Rattle.std.proofs.Common.{◌≡◌, inl, inr, ℕ, ◌+◌, ◌<◌, List, [], ◌∷◌, true, Option, None, sym, ap, subst, ◌∙◌, arith}
use Rattle.std.proofs.lemmas.Bool.{cases_lt}
use Rattle.block_device.specs.Prelude.{IsClean, Disk, History}
use Rattle.meta_rows.specs.declared.row_op.RowOp.{RowOp}
use Rattle.meta_rows.specs.Prelude.{Rows}
use Rattle.meta_log.specs.declared.slot.Super.{Super}
use Rattle.meta_log.specs.Prelude.{active_unit, data_unit, in_runs}
use Rattle.plan_drafts.specs.Prelude.{PlansKeep}
use Rattle.store_steps.specs.declared.context.Context.{Context}
use Rattle.meta_store.specs.Store.{Begun}
use Rattle.store_steps.specs.Prelude.{State, is_drained, Call, IsRun, uncommitted, given_fresh, begun_ops, submitted_from, second_flush, check_pieces, other_check, other_part}
use Rattle.switch_facts.proofs.Steps.{known_as}
use Rattle.run_facts.proofs.SwitchFootprints.{none_open}
use Rattle.run_facts.specs.Prelude.{IsKept}
use Rattle.run_facts.proofs.Prelude.{kept_call, known_idle, IsIdle, idle_uncommitted, was_up}
use Rattle.log_facts.specs.Prelude.{FlushState, SlotsStand, OtherHalfRests, ActiveHalfStands}
use Rattle.unit_facts.specs.DataUnits.{DataUnitsAreClean}
use Rattle.unit_facts.specs.Known.{KnownOfUnits, KnowsUnits}
use Rattle.unit_facts.proofs.OtherKnown.{log_clean}
use Rattle.unit_facts.proofs.Calls.{call_knows}

-- ---- a run that leaves the kernel up found it up

pub run_up : (calls : List Call) (s s' : State) (d d' : Disk) → IsRun s d calls s' d' → s'.down ≡ None → s.down ≡ None
run_up [] s s' d d' run up = ap (λ (t : State). t.down) (sym run.0) ∙ up
run_up (call ∷ calls) s s' d d' run up =
    was_up call s d run.0 run.1.0 run.1.1.0 (run_up calls run.0 s' run.1.0 d' run.1.1.1.1 up)

-- ---- a run keeps what is known

pub run_knows : PlansKeep → (calls : List Call) (base : ℕ) (s s' : State) (d d' : Disk) (h : History) → IsKept s d → KnownOfUnits base s d h
    → IsRun s d calls s' d' → s'.down ≡ None → KnowsUnits base s' d'
run_knows keep [] base s s' d d' h kept known run up =
    let same : KnownOfUnits base s d' h = subst (λ (e : Disk). KnownOfUnits base s e h) (sym run.1) known in
    record { history = h; known = subst (λ (t : State). KnownOfUnits base t d' h) (sym run.0) same }
run_knows keep (call ∷ calls) base s s' d d' h kept known run up =
    let t : State = run.0 in
    let e : Disk = run.1.0 in
    let after : IsKept t e = kept_call call s t d e keep kept run.1.1.0 run.1.1.1.0 in
    let mid : KnowsUnits base t e = call_knows call base s t d e h kept (run_up calls t s' e d' run.1.1.1.1 up) known run.1.1.0 in
    run_knows keep calls base t s' e d' mid.history after mid.known run.1.1.1.1 up

-- ---- once the kernel is drained no unit is dirty

-- no record is being written
pub idle_half : (base : ℕ) (s : State) (d : Disk) (h : History) → KnownOfUnits base s d h → s.log.begun ≡ None
    → (recs : List (List RowOp)) × ActiveHalfStands h s.log.sup s.log.rows s.log.tail s.log.number None 0 (second_flush s.batch) recs
idle_half base s d h known none = (
  known.half.recs,
  subst (λ (b : Option Begun). ActiveHalfStands h s.log.sup s.log.rows s.log.tail s.log.number (begun_ops b)
      (submitted_from s.log.number b) (second_flush s.batch) known.half.recs) none known.half.stands,
)

half_clean : (h : History) (s : Super) (rows : Rows) (tail number k : ℕ) (second : FlushState) (recs : List (List RowOp))
    → ActiveHalfStands h s rows tail number None 0 second recs → k < s.half → IsClean h.log (active_unit s + k)
half_clean h s rows tail number k second recs stands below = elim (cases_lt k tail) [
  | inl front ↦ (stands.front k front).clean
  | inr behind ↦ (stands.zero_behind k (omega (arith, behind)) below).clean
]

-- no checkpoint is written
pub idle_other : (base : ℕ) (s : State) (d : Disk) (h : History) → KnownOfUnits base s d h → s.switching ≡ None
    → SlotsStand h s.log.sup × OtherHalfRests h s.log.sup (in_runs s.log.stale)
idle_other base s d h known rests = known_as h (other_part s) None
    (ap (other_check (check_pieces s.log) s.log.check) rests ∙ none_open (check_pieces s.log) s.log.check) known.other

pub idle_clean : (base : ℕ) (s : State) (d : Disk) (h : History) → KnownOfUnits base s d h → s.log.begun ≡ None → s.switching ≡ None
    → uncommitted s ≡ [] → (unit : ℕ) → IsClean h.log unit
idle_clean base s d h known none rests idle unit = elim (cases_lt unit (data_unit s.log.sup)) [
  | inl inside ↦
      let half = idle_half base s d h known none in
      let other = idle_other base s d h known rests in
      log_clean h s.log.sup other.0 other.1.clean
      (λ k below. half_clean h s.log.sup s.log.rows s.log.tail s.log.number k (second_flush s.batch) half.0 half.1 below) unit inside
  | inr behind ↦ subst (λ (xs : List Context). DataUnitsAreClean h s.log.sup (given_fresh xs)) idle known.clean unit behind tt
]

pub drained_clean : (base : ℕ) (s : State) (d : Disk) (h : History) → IsKept s d → KnownOfUnits base s d h → s.down ≡ None
    → is_drained d.depth s ≡ true → (unit : ℕ) → IsClean h.log unit
drained_clean base s d h kept known up drained =
    let idle : IsIdle s = known_idle s d kept up drained in
    idle_clean base s d h known idle.begun idle.switching (idle_uncommitted s idle)
