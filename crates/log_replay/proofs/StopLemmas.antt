-- Making a store stops at the first call that fails.
use Rattle.std.proofs.Common.{◌≡◌, inl, inr, ℕ, ◌+◌, true, false, List, [], ◌∷◌, ◌++◌, length, Option, Result, Ok, Err, refl, sym, subst, ◌∙◌, append_assoc}
use Rattle.std.specs.Prelude.{IsErr, IsErrAnd, IsErrOf}
use Rattle.std.specs.List.{AllByRecursion}
use Rattle.block_device.specs.Prelude.{Disk, History}
use Rattle.block_device.specs.declared.event.Event.{Event}
use Rattle.block_device.specs.declared.event.Event.TheVariants.{Done}
use Rattle.block_device.specs.declared.device.Failed.{Failed}
use Rattle.block_device.specs.declared.device.Failed.TheVariants.{Fault}
use Rattle.log_replay.specs.Prelude.{after_call, Called, Told, GoesOnBy, IsNoBadEnd, GoesOnWell, GoesOnToBadEnd, StopsAtFault, UnitRun, run_events, WroteRuns}
use Rattle.log_replay.proofs.RunLemmas.{told_end, by_none, by_join, by_call, RunsSoFar, each_append}
use Rattle.log_replay.proofs.ZeroLemmas.{told_map, told_start}
use Rattle.log_replay.proofs.MadeLemmas.{told_join}

-- ---- one call more

well_call : (event : Event) → IsNoBadEnd event → (h k : History) → GoesOnWell h k → GoesOnWell h (after_call event true k)
well_call event is h k well = record {
  events = well.events ++ event ∷ Done (length k.log) true ∷ [];
  by = by_call well.events event true h k well.by;
  good = each_append IsNoBadEnd well.events (event ∷ Done (length k.log) true ∷ []) well.good (is, (refl, tt));
}

bad_call : (event : Event) → IsNoBadEnd event → (h k : History) → GoesOnWell h k → GoesOnToBadEnd h (after_call event false k)
bad_call event is h k well =
    let end = Done (length k.log) false ∷ [] in
    record {
      events = well.events ++ event ∷ [];
      ticket = length k.log;
      by = subst (λ (l : List Event). GoesOnBy l h (after_call event false k)) (sym (append_assoc well.events (event ∷ []) end))
          (by_call well.events event false h k well.by);
      good = each_append IsNoBadEnd well.events (event ∷ []) well.good (is, tt);
    }

pub well_none : (d : Disk) → Told GoesOnWell d.history d.history
well_none d = told_start GoesOnWell d.history (λ h. record { events = []; by = by_none h; good = tt })

pub well_after : (event : Event) → IsNoBadEnd event → (old mid new : Disk) → Told GoesOnWell old.history mid.history → Called mid event true new
    → Told GoesOnWell old.history new.history
well_after event is old mid new well called =
    subst (λ (d : Disk). Told GoesOnWell old.history d.history) (sym called)
    (told_end GoesOnWell GoesOnWell event true old.history mid.history (λ h k w. well_call event is h k w) well)

pub bad_after : (event : Event) → IsNoBadEnd event → (old mid new : Disk) → Told GoesOnWell old.history mid.history → Called mid event false new
    → Told GoesOnToBadEnd old.history new.history
bad_after event is old mid new well called =
    subst (λ (d : Disk). Told GoesOnToBadEnd old.history d.history) (sym called)
    (told_end GoesOnWell GoesOnToBadEnd event false old.history mid.history (λ h k w. bad_call event is h k w) well)

-- ---- zeros over runs

runs_well : (place : ℕ) (runs : List UnitRun) → AllByRecursion IsNoBadEnd (run_events place runs)
runs_well place [] = tt
runs_well place (run ∷ more) = (tt, (refl, runs_well (place + 2) more))

pub well_so_far : (units rest : List ℕ) (count : ℕ) (a b : Option History) → Told (RunsSoFar units rest count) a b → Told GoesOnWell a b
well_so_far units rest count a b told = told_map (RunsSoFar units rest count) GoesOnWell a b
    (λ h k is so_far. record { events = run_events (length h.log) so_far.runs; by = so_far.by; good = runs_well (length h.log) so_far.runs }) told

pub well_written : (units : List ℕ) (count : ℕ) (a b : Option History) → Told (WroteRuns units count) a b → Told GoesOnWell a b
well_written units count a b told = told_map (WroteRuns units count) GoesOnWell a b
    (λ h k is wrote. record { events = run_events (length h.log) wrote.runs; by = wrote.by; good = runs_well (length h.log) wrote.runs }) told

-- ---- where it stops

-- a failure that is handed on is the one that a call gave
pub same_failure : {T : Type 0} (result : Result T Failed) (why : Failed) → IsErr result × IsErrAnd result (λ e. e ≡ why) → IsErrOf result Fault → why ≡ Fault
same_failure (Ok x) why is fault = absurd cc
same_failure (Err e) why is fault = let here : e ≡ Fault = cc in sym is.1 ∙ here

pub stops_same : (old new : Disk) → new ≡ old → Told StopsAtFault old.history new.history
stops_same old new same = subst (λ (d : Disk). Told StopsAtFault old.history d.history) (sym same) (told_start StopsAtFault old.history (λ h. inl refl))

pub stops_bad : (a b : Option History) → Told GoesOnToBadEnd a b → Told StopsAtFault a b
stops_bad a b bad = told_map GoesOnToBadEnd StopsAtFault a b (λ h k is end. inr end) bad

pub bad_behind : (a b c : Option History) → Told GoesOnWell a b → Told GoesOnToBadEnd b c → Told GoesOnToBadEnd a c
bad_behind a b c well bad = told_join GoesOnWell GoesOnToBadEnd GoesOnToBadEnd a b c (λ h k m is_h is_k is_m w e. joined h k m w e) well bad
  where
    joined : (h k m : History) → GoesOnWell h k → GoesOnToBadEnd k m → GoesOnToBadEnd h m
    joined h k m w e =
        let end = Done e.ticket false ∷ [] in
        record {
          events = w.events ++ e.events;
          ticket = e.ticket;
          by = subst (λ (l : List Event). GoesOnBy l h m) (sym (append_assoc w.events e.events end))
              (by_join w.events (e.events ++ end) h k m w.by e.by);
          good = each_append IsNoBadEnd w.events e.events w.good e.good;
        }
