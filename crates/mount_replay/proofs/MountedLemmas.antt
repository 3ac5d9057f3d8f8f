-- A mount of contents that stand for objects opens these, or has its cause.
use Rattle.std.proofs.Common.{◌≡◌, inl, inr, ℕ, ◌+◌, ◌*◌, ◌<◌, ◌≤◌, ◌%◌, true, List, [], ◌∷◌, ◌++◌, length, drop, refl, sym, ap, subst, ◌∙◌, arith}
use Rattle.std.specs.Prelude.{All}
use Rattle.std.proofs.lemmas.List.Elements.{All-drop}
use Rattle.std.specs.List.{AllByRecursion}
use Rattle.byte_maps.specs.Units.{IsUnits, zeros}
use Rattle.block_device.specs.Prelude.{last, Disk, History, IsSound, last_at}
use Rattle.block_device.specs.declared.event.Event.{Event}
use Rattle.block_device.specs.declared.event.Event.TheVariants.{Write, Flush, Done}
use Rattle.object_model.specs.Prelude.{Objects}
use Rattle.meta_log.specs.declared.slot.Super.{Super}
use Rattle.meta_log.specs.Prelude.{AreRowsOf, width_of, active_unit}
use Rattle.meta_log.proofs.SlotLemmas.{same_active}
use Rattle.store_image.specs.Prelude.{NoBadRow, StandsFor, ObjectsStand}
use Rattle.store_image.proofs.Prelude.{same_rows}
use Rattle.unit_allocator.specs.Prelude.{Space}
use Rattle.store_steps.specs.Prelude.{State, Found}
use Rattle.log_replay.specs.Prelude.{Told, GoesOnBy, IsAllClean, UnitRun, AreRuns, run_events, IsZeroing, IsFirstPart, flushed_runs, AreClearing, ClearsSoFar, IsAbout, IsFoundIn, IsUnopenable, FailsMount}
use Rattle.mount_replay.specs.Mounting.{behind_records, IsStaleIn, WasOpened, IsOpenedOn}
use Rattle.mount_replay.specs.Mounted.{HoldsObjects, BeginsWith, RefusesStore}
use Rattle.log_replay.specs.declared.opening.MountFail.{MountFail}
use Rattle.log_replay.specs.declared.opening.MountFail.TheVariants.{Memory, NoSuper, BadRow, NotExact, WornOut, Fault}
use Rattle.log_replay.proofs.RunLemmas.{run_zeroes, each_append}
use Rattle.log_replay.proofs.ClearLemmas.{others_between}
use Rattle.mount_replay.proofs.DurableLemmas.{After, after_clearing}
use Rattle.mount_replay.proofs.MountLemmas.{known, told_after}

-- ---- what is cleared is zeroed behind the records

runs_zero : (first end place : ℕ) (units : List ℕ) (runs : List UnitRun) → AreRuns units runs → All (λ unit. (first ≤ unit) × (unit < end)) units
    → AllByRecursion (IsZeroing first end) (run_events place runs)
runs_zero first end place units [] are between = tt
runs_zero first end place units (run ∷ more) are between =
    let one = run_zeroes units run.count first end are.0 are.1 between in
    let here = subst (λ (n : ℕ). IsZeroing first end (Write n (zeros (4096 * run.count)))) (sym are.2) one in
    (here, (tt, runs_zero first end (place + 2) (drop run.count units) more are.3 (All-drop (λ unit. (first ≤ unit) × (unit < end)) run.count units between)))

flushed_zero : (first end place : ℕ) (units : List ℕ) (runs : List UnitRun) → AreRuns units runs → All (λ unit. (first ≤ unit) × (unit < end)) units
    → AllByRecursion (IsZeroing first end) (flushed_runs place runs)
flushed_zero first end place units [] are between = tt
flushed_zero first end place units (run ∷ more) are between =
    each_append (IsZeroing first end) (run_events place (run ∷ more)) (Flush ∷ Done (place + 2 * length (run ∷ more)) true ∷ [])
    (runs_zero first end place units (run ∷ more) are between) (tt, (tt, tt))

first_zero : (first end place : ℕ) (bytes : List ℕ) (events : List Event) → first < end → IsFirstPart place first bytes events
    → AllByRecursion (IsZeroing first end) events
first_zero first end place bytes events some (inl none) = subst (AllByRecursion (IsZeroing first end)) (sym none.1) tt
first_zero first end place bytes events some (inr one) =
    subst (AllByRecursion (IsZeroing first end)) (sym one.1) ((1, refl, omega arith, omega (arith, some)), (tt, (tt, (tt, tt))))

pub clearing_so_far : (first end : ℕ) (bytes : List ℕ) (events : List Event) (h k : History) → AreClearing (length h.log) first end bytes events
    → GoesOnBy events h k → ClearsSoFar first end bytes h k
clearing_so_far first end bytes events h k (inl none) by = record {
  events = events;
  by = by;
  each = subst (AllByRecursion (IsZeroing first end)) (sym none.1) tt;
  begins = inl none.1;
}
clearing_so_far first end bytes events h k (inr both) by =
    let parts = both.1 in
    let between = wider parts.units (others_between first end bytes parts.units both.0 parts.not_zero) in
    let second = subst (AllByRecursion (IsZeroing first end)) (sym parts.is_second.spelled)
    (flushed_zero first end (length h.log + length parts.first_part) parts.units parts.is_second.runs parts.is_second.are between) in
    let each = each_append (IsZeroing first end) parts.first_part parts.second_part
    (first_zero first end (length h.log) bytes parts.first_part both.0 parts.is_first) second in
    record {
      events = events;
      by = by;
      each = subst (AllByRecursion (IsZeroing first end)) (sym parts.parts) each;
      begins = elim parts.is_first [
        | inl zero ↦ inr (inl zero.0)
        | inr one ↦ inr (inr (record {
          more = (Done (length h.log) true ∷ Flush ∷ Done (length h.log + 2) true ∷ []) ++ parts.second_part;
          parts = parts.parts ∙ ap (λ (l : List Event). l ++ parts.second_part) one.1;
        }))
      ];
    }
  where
    wider : (units : List ℕ) → All (λ unit. (first + 1 ≤ unit) × (unit < end)) units → All (λ unit. (first ≤ unit) × (unit < end)) units
    wider units all k d lt = let is = all k d lt in (omega (arith, is.0), is.1)

-- ---- a store is opened

module _ (given now : Disk) (h : History) (objects : Objects) (f : Found) (space : Space) (s : State) (sound : IsSound given)
    (holds : HoldsObjects given h objects) (mounted : IsOpenedOn given f space now s) where
  contents : List ℕ
  contents = last h.start h.log

  found : IsFoundIn (last h.start h.log) f
  found = (known (λ g. IsAllClean g → IsFoundIn (last g.start g.log) f × IsStaleIn (last g.start g.log) f) given.history h holds.told mounted.found holds.clean).0

  whole : IsUnits f.sup.units h.start
  whole = subst (λ n. IsUnits n h.start) (sym mounted.openable.units_are) (known (λ g. IsUnits given.units g.start) given.history h holds.told sound.size)

  whole_now : IsUnits f.sup.units (last h.start h.log)
  whole_now = subst (λ n. IsUnits n (last h.start h.log)) (sym mounted.openable.units_are)
      (known (λ g. IsUnits given.units (last g.start g.log)) given.history h holds.told sound.size_now)

  begins_by : (k : History) → WasOpened f mounted.events h k → After f found.replay.records objects (length h.log) k
  begins_by k was =
      let so_far = clearing_so_far (active_unit f.sup + f.tail) (active_unit f.sup + f.sup.half) (behind_records (last h.start h.log) f) was.events h k
      (was.clearing holds.clean) was.by in
      after_clearing f h objects holds.clean whole whole_now mounted.openable.limits mounted.openable.good.good found holds.stands k so_far

  pub begins_with : BeginsWith objects (length h.log) now s
  begins_with =
      let told = told_after (WasOpened f mounted.events) now.history h (subst (λ o. Told (WasOpened f mounted.events) o now.history) holds.told mounted.told) in
      let after = begins_by told.now told.holds in
      let rows = ap (λ (z : State). z.log.rows) mounted.state in
      record {
        history = told.now;
        told = told.told;
        rows = subst (λ r. ObjectsStand (width_of s.log.sup) (last_at told.now) r objects) (sym rows) after.stands.sound.stand;
        submitted = ap (λ (z : State). z.submitted) mounted.state ∙ sym rows;
        up = ap (λ (z : State). z.down) mounted.state;
        pending = ap (λ (z : State). z.pending) mounted.state;
        book = ap (λ (z : State). z.book) mounted.state;
        cuts = after.cuts;
      }

-- ---- or it isn't

-- the rows that are found in contents that stand for objects are none of them bad
none_bad : (contents : List ℕ) (objects : Objects) (f : Found) → StandsFor contents objects → IsFoundIn contents f → NoBadRow f.sup f.rows
none_bad contents objects f stands found =
    let sup : stands.super ≡ f.sup = same_active contents stands.super f.sup stands.active found.active in
    let theirs : AreRowsOf contents f.sup stands.rows = subst (λ (x : Super). AreRowsOf contents x stands.rows) sup stands.read in
    let ours : AreRowsOf contents f.sup f.rows = record { records = found.replay.records; stand = found.replay.stand; made = found.replay.made } in
    let rows : stands.rows ≡ f.rows = same_rows contents f.sup stands.rows f.rows theirs ours in
    subst (λ (x : Super). NoBadRow x f.rows) sup (subst (NoBadRow stands.super) rows stands.good)

module _ (given : Disk) (h : History) (objects : Objects) (before now : ℕ) (holds : HoldsObjects given h objects) where
  about : (P : List ℕ → Type 0) → IsAbout given P → P (last h.start h.log)
  about P is = known (λ g. IsAllClean g → P (last g.start g.log)) given.history h holds.told is holds.clean

  pub refuses_store : (fail : MountFail) → FailsMount fail given before now → RefusesStore fail h before now
  refuses_store Memory fails = tt
  refuses_store NoSuper fails =
      let none = about (IsUnopenable NoSuper) fails in none (holds.stands.super.epoch % 2) holds.stands.super (omega arith) holds.stands.active.here
  refuses_store (BadRow key) fails =
      let is = about (IsUnopenable (BadRow key)) fails in
      let good = none_bad (last h.start h.log) objects is.0 holds.stands is.1 in
      is.2.bad.is_not_good (good key is.2.bad.value is.2.bad.stands)
  refuses_store (NotExact unit) fails = about (IsUnopenable (NotExact unit)) fails
  refuses_store (WornOut value) fails = about (IsUnopenable (WornOut value)) fails
  refuses_store Fault fails = fails
