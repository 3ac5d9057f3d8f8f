-- What is known of the data units is kept, whatever a call makes of them.
use Rattle.std.proofs.Common.{◌≡◌, ◌≢◌, inl, inr, ℕ, true, List, [], ◌∷◌, ◌++◌, ◌≤◌, length, sym, subst, arith}
use Rattle.std.specs.List.{AllByRecursion}
use Rattle.std.specs.List.Sorted.{IsPermutation}
use Rattle.std.proofs.lemmas.List.Sorted.{IsPermutation-sym, All-permutation}
use Rattle.std.proofs.lemmas.List.Elements.{All-from_recursion, recursion_from_All}
use Rattle.block_device.specs.Prelude.{last, WritesUnit, WritesNothing, History, Flight, with_event, last_at, EventFits, IsUntouched, EachWriteIsAnswered, QuietAt}
use Rattle.block_device.specs.declared.event.Event.{Event}
use Rattle.block_device.specs.declared.event.Event.TheVariants.{Write, Flush, Done}
use Rattle.block_device.proofs.LogLemmas.{clean_push}
use Rattle.byte_maps.specs.Units.{IsUnits}
use Rattle.meta_log.specs.declared.slot.Super.{Super}
use Rattle.meta_log.specs.Prelude.{IsSuper, data_unit}
use Rattle.store_image.specs.Prelude.{IsDataUnit}
use Rattle.log_facts.specs.Prelude.{sent, flushed}
use Rattle.log_facts.proofs.Keeping.{half_before_data, half_spares_data, flush_sent}
use Rattle.plan_rows.specs.declared.plan.FreshUnit.{FreshUnit}
use Rattle.store_steps.specs.Prelude.{Unsent, unsent_units, DataPart, Touch, nothing, ends, flushes, on_data, on_half, on_other, on_slot, after, run_write, IsPlaced, IsNoData, DataGoes, SubmitsRun, gives, opens, flushes_batch, retires}
use Rattle.flight_facts.proofs.Prelude.{all_join, all_left, all_right}
use Rattle.unit_facts.specs.DataUnits.{DataUnitsAreClean, HeldBytesAreLast, UnitsAreFlushed}
use Rattle.unit_facts.proofs.RunWrites.{row_spares, run_held}
use Rattle.unit_facts.proofs.Units.{AreOnData, other_before_data, other_spares_data, slot_spares_data, spares_data, none_written, fits_quiet, clean_on, held_on, flushed_on, none_flushed, units_cleaned, other_or_clean}
use Rattle.unit_facts.proofs.Events.{HasNextTicket}
use Rattle.store_steps.specs.DataGoes.{same, is_flushed, switches}

-- what is known of the data units of contexts
pub record AreKnown (h : History) (p : DataPart) : Type 0 where
  pub clean : DataUnitsAreClean h p.sup p.given
  pub held : HeldBytesAreLast h p.given
  pub flushed_units : UnitsAreFlushed h p.first p.fresh

-- all of them are data units
pub record AreOnDevice (p : DataPart) : Type 0 where
  pub given : AreOnData p.sup p.given
  pub fresh : AreOnData p.sup p.fresh

-- an event that spares them
pub spared : (h : History) (e : Event) (p : DataPart) → EventFits (length (last h.start h.log)) e → ((unit : ℕ) → data_unit p.sup ≤ unit → ¬ WritesUnit unit e)
    → AreOnDevice p → AreKnown h p → AreKnown (with_event h e) p
spared h e p fit others on known =
    let on_data_units : (unit : ℕ) → IsDataUnit p.sup unit → ¬ WritesUnit unit e = λ unit is. others unit is.0 in
    record {
      clean = clean_on h p.sup e p.given others known.clean;
      held = held_on h e p.given fit (spares_data p.sup e p.given on_data_units on.given) known.held;
      flushed_units = flushed_on h e p.first p.fresh (spares_data p.sup e p.fresh on_data_units on.fresh) known.flushed_units;
    }

pub quiet : (h : History) (e : Event) (p : DataPart) → WritesNothing e → AreOnDevice p → AreKnown h p → AreKnown (with_event h e) p
quiet h e p none on known = spared h e p (fits_quiet (length (last h.start h.log)) e none) (λ unit is. none_written e unit none) on known

-- the parts are the same
same_known : (t : Touch) (p : DataPart) (h : History) → IsNoData t → IsPlaced p.sup t → IsUnits p.sup.units (last h.start h.log) → IsSuper p.sup
    → AreOnDevice p → AreKnown h p → AreKnown (after t h) p
same_known nothing p h spares placed size limits on known = known
same_known (ends ticket) p h spares placed size limits on known = quiet h (Done ticket true) p tt on known
same_known (flushes ticket) p h spares placed size limits on known = quiet h Flush p tt on known
same_known (on_data ticket run) p h spares placed size limits on known = absurd spares
same_known (on_half ticket unit bytes) p h spares placed size limits on known =
    spared h (Write unit bytes) p (omega (arith, placed.1, half_before_data p.sup, limits.room, size)) (λ u is. half_spares_data p.sup unit u bytes placed.1 is) on known
same_known (on_other ticket unit bytes) p h spares placed size limits on known =
    spared h (Write unit bytes) p (omega (arith, placed.1, other_before_data p.sup, limits.room, size))
    (λ u is. other_spares_data p.sup unit u bytes placed.1 is) on known
same_known (on_slot ticket unit bytes) p h spares placed size limits on known =
    spared h (Write unit bytes) p (omega (arith, placed.0, placed.1, limits.room, size)) (λ u is. slot_spares_data p.sup unit u bytes placed.0 placed.1 is) on known

-- a run is submitted
module _ (h : History) (run : Unsent) (p q : DataPart) (g : SubmitsRun run p q) (fit : EventFits (length (last h.start h.log)) (run_write run)) where
  abbrev mine : List FreshUnit
  mine = unsent_units run

  abbrev then : History
  then = with_event h (run_write run)

  pub given_clean : DataUnitsAreClean h p.sup p.given → DataUnitsAreClean then p.sup (g.front ++ (mine ++ g.back))
  given_clean clean unit is other =
      let P : FreshUnit → Type 0 = λ (f : FreshUnit). f.unit ≢ unit in
      let behind : AllByRecursion P (mine ++ g.back) = all_right P g.front (mine ++ g.back) other in
      clean_push h.log (run_write run) unit
      (clean unit is (subst (AllByRecursion P) (sym g.before)
      (all_join P g.front g.back (all_left P g.front (mine ++ g.back) other) (all_right P mine g.back behind))))
      (row_spares run.first.unit unit mine g.row g.whole (all_left P mine g.back behind))

  pub given_held : HeldBytesAreLast h p.given → HeldBytesAreLast then (g.front ++ (mine ++ g.back))
  given_held held =
      let P : FreshUnit → Type 0 = λ (f : FreshUnit). last_at then f.unit ≡ f.bytes in
      let others : HeldBytesAreLast then (g.front ++ g.back) =
      held_on h (run_write run) (g.front ++ g.back) fit g.others (subst (HeldBytesAreLast h) g.before held) in
      all_join P g.front (mine ++ g.back) (all_left P g.front g.back others)
      (all_join P mine g.back (run_held h run.first.unit mine g.row g.whole fit) (all_right P g.front g.back others))

-- a flush is submitted while none of these is in flight
pub covered : (h : History) (base : ℕ) (flights : List Flight) (fresh : List FreshUnit) → QuietAt base h → EachWriteIsAnswered base h flights
    → AllByRecursion (λ f. IsUntouched flights f.unit) fresh → UnitsAreFlushed (with_event h Flush) (sent (length h.log)) fresh
covered h base flights [] quiet_since each untouched = tt
covered h base flights (f ∷ fresh) quiet_since each untouched =
    (flush_sent h base flights f.unit quiet_since each untouched.0, covered h base flights fresh quiet_since each untouched.1)

-- the batch's units are clean
pub retired : (h : History) (s : Super) (fresh rest : List FreshUnit) → UnitsAreFlushed h flushed fresh → DataUnitsAreClean h s (fresh ++ rest)
    → DataUnitsAreClean h s rest
retired h s fresh rest are clean unit is others = elim (other_or_clean h fresh unit are) [
  | inl none ↦ clean unit is (all_join (λ f. f.unit ≢ unit) fresh rest none others)
  | inr is_clean ↦ is_clean
]

-- what holds of each holds of each in another order
all_moved : {A : Type 0} (P : A → Type 0) (xs ys : List A) → IsPermutation xs ys → AllByRecursion P xs → AllByRecursion P ys
all_moved P xs ys order all = recursion_from_All P ys (All-permutation P xs ys order (All-from_recursion P xs all))

-- ---- each footprint

pub units_known : (base : ℕ) (flights : List Flight) (t : Touch) (p q : DataPart) (h : History) → DataGoes flights t p q → IsPlaced p.sup t
    → IsUnits p.sup.units (last h.start h.log) → IsSuper p.sup → AreOnDevice p → QuietAt base h → EachWriteIsAnswered base h flights
    → HasNextTicket h t → AreKnown h p → AreKnown (after t h) q
units_known base flights t p q h (same spares is) placed size limits on quiet_since each next known =
    subst (AreKnown (after t h)) (sym is) (same_known t p h spares placed size limits on known)
units_known base flights t p q h (gives ticket run g) placed size limits on quiet_since each next known =
    let fit : EventFits (length (last h.start h.log)) (run_write run) = omega (arith, placed.1, size) in
    subst (AreKnown (with_event h (run_write run))) (sym g.then) (record {
      clean = given_clean h run p q g fit known.clean;
      held = given_held h run p q g fit known.held;
      flushed_units = flushed_on h (run_write run) p.first p.fresh g.batch known.flushed_units;
    })
units_known base flights t p q h (opens fresh rest order is) placed size limits on quiet_since each next known =
    subst (AreKnown h) (sym is) (record {
      clean = λ unit out others. known.clean unit out
          (all_moved (λ (f : FreshUnit). f.unit ≢ unit) (fresh ++ rest) p.given (IsPermutation-sym p.given (fresh ++ rest) order) others);
      held = all_moved (λ (f : FreshUnit). last_at h f.unit ≡ f.bytes) p.given (fresh ++ rest) order known.held;
      flushed_units = none_flushed h fresh;
    })
units_known base flights t p q h (flushes_batch ticket untouched is) placed size limits on quiet_since each next known =
    let k : AreKnown (with_event h Flush) p = quiet h Flush p tt on known in
    subst (AreKnown (with_event h Flush)) (sym is) (record {
      clean = k.clean;
      held = k.held;
      flushed_units = subst (λ (n : ℕ). UnitsAreFlushed (with_event h Flush) (sent n) p.fresh) (sym next) (covered h base flights p.fresh quiet_since each untouched);
    })
units_known base flights t p q h (is_flushed ticket was is) placed size limits on quiet_since each next known =
    let k : AreKnown (with_event h (Done ticket true)) p = quiet h (Done ticket true) p tt on known in
    subst (AreKnown (with_event h (Done ticket true))) (sym is) (record {
      clean = k.clean;
      held = k.held;
      flushed_units = units_cleaned h ticket p.fresh (subst (λ f. UnitsAreFlushed h f p.fresh) was known.flushed_units);
    })
units_known base flights t p q h (retires rest was before is) placed size limits on quiet_since each next known =
    let are : UnitsAreFlushed h flushed p.fresh = subst (λ f. UnitsAreFlushed h f p.fresh) was known.flushed_units in
    subst (AreKnown h) (sym is) (record {
      clean = retired h p.sup p.fresh rest are (subst (DataUnitsAreClean h p.sup) before known.clean);
      held = all_right (λ (f : FreshUnit). last_at h f.unit ≡ f.bytes) p.fresh rest (subst (HeldBytesAreLast h) before known.held);
      flushed_units = tt;
    })
units_known base flights t p q h (switches number is) placed size limits on quiet_since each next known =
    subst (AreKnown h) (sym is) (record { clean = known.clean; held = known.held; flushed_units = known.flushed_units })
