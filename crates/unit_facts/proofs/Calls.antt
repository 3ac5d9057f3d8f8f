-- Each call of the kernel keeps what is known, where the kernel is up behind it: its footprint does.
use Rattle.std.proofs.Common.{◌≡◌, ℕ, List, [], ◌∷◌, ◌++◌, Option, Some, None, sym, ap, subst, ◌∙◌}
use Rattle.std.specs.Prelude.{IfSome}
use Rattle.std.proofs.lemmas.Option.{same_Some}
use Rattle.std.specs.List.{AllByRecursion}
use Rattle.std.specs.Option.{option_map_or}
use Rattle.byte_maps.specs.Units.{IsUnits}
use Rattle.block_device.specs.Prelude.{last, IsClean, Disk, History, Flight}
use Rattle.meta_log.specs.Prelude.{in_runs, check_records}
use Rattle.log_facts.specs.Prelude.{not_sent, SlotsStand, ActiveHalfStands, OtherHalfRests}
use Rattle.switch_facts.specs.Prelude.{OtherIsKnown}
use Rattle.store_image.specs.Prelude.{IsDataUnit}
use Rattle.store_steps.specs.declared.context.Context.{Context}
use Rattle.plan_rows.specs.declared.plan.FreshUnit.{FreshUnit}
use Rattle.store_steps.specs.Prelude.{Batch, State, uncommitted, all_fresh, flush_of, Found, opened, Call, Calls, data_part, HalfPart, HalfGoes, half_part, other_part, check_pieces, begun_ops, submitted_from, second_flush, Touch, event_of, ticket_of, after, Footprint}
use Rattle.store_steps.specs.HalfGoes as half
use Rattle.switch_facts.specs.Prelude.{CheckPart}
use Rattle.switch_facts.proofs.Steps.{switch_makes}
use Rattle.run_facts.proofs.SwitchKnown.{checking_none}
use Rattle.run_facts.specs.Prelude.{IsKept}
use Rattle.unit_allocator.specs.Prelude.{Space}
use Rattle.meta_rows.specs.declared.row_op.RowOp.{RowOp}
use Rattle.run_facts.proofs.Prelude.{all_join, all_left, all_right, given_taken, taken_fresh, taken_data, was_up, footprint_of}
use Rattle.unit_facts.specs.DataUnits.{UnitsAreFlushed, BatchUnitsAreFlushed}
use Rattle.unit_facts.specs.Known.{IsAnsweredSince, KnownOfUnits, KnowsUnits}
use Rattle.unit_facts.proofs.Events.{IsTold, told_of}
use Rattle.unit_facts.proofs.Units.{AreOnData}
use Rattle.unit_facts.proofs.DataKnown.{AreKnown, AreOnDevice, units_known}
use Rattle.unit_facts.proofs.HalfKnown.{HalfStands, IsMoved, half_known}
use Rattle.unit_facts.proofs.OtherKnown.{other_known, turned}

-- ---- the batch's units

to_part : (h : History) (o : Option Batch) → BatchUnitsAreFlushed h o
    → UnitsAreFlushed h (option_map_or (λ b. flush_of b.first) o not_sent) (option_map_or (λ (b : Batch). all_fresh b.contexts) o [])
to_part h None are = tt
to_part h (Some b) are = are

of_part : (h : History) (o : Option Batch)
    → UnitsAreFlushed h (option_map_or (λ b. flush_of b.first) o not_sent) (option_map_or (λ (b : Batch). all_fresh b.contexts) o [])
    → BatchUnitsAreFlushed h o
of_part h None are = tt
of_part h (Some b) are = are

batch_front : (P : FreshUnit → Type 0) (xs ys : List Context) → AllByRecursion P (all_fresh (xs ++ ys)) → AllByRecursion P (all_fresh xs)
batch_front P [] ys all = tt
batch_front P (x ∷ xs) ys all = all_join P x.fresh (all_fresh xs) (all_left P x.fresh (all_fresh (xs ++ ys)) all)
    (batch_front P xs ys (all_right P x.fresh (all_fresh (xs ++ ys)) all))

on_device : (s : State) (d : Disk) → IsKept s d → s.down ≡ None → AreOnDevice (data_part s)
on_device s d kept up = record {
  given = given_taken (IsDataUnit s.log.sup) (uncommitted s) (taken_data s d kept up);
  fresh = of_batch s.batch (taken_fresh (IsDataUnit s.log.sup) (uncommitted s) (taken_data s d kept up));
}
  where
    of_batch : (o : Option Batch) → AreOnData s.log.sup (all_fresh (option_map_or (λ b. b.contexts) o [] ++ s.pending))
        → AreOnData s.log.sup (option_map_or (λ (b : Batch). all_fresh b.contexts) o [])
    of_batch None all = tt
    of_batch (Some b) all = batch_front (λ f. IsDataUnit s.log.sup f.unit) b.contexts s.pending all

-- ---- a switch of halves

-- while a checkpoint is written the active half has its records and no more, since no batch is open
pub half_while_checking : {base : ℕ} (s : State) (d : Disk) (h : History) → IsKept s d → s.down ≡ None → (known : KnownOfUnits base s d h) → (c : CheckPart)
    → (other_part s).check ≡ Some c
    → ActiveHalfStands h s.log.sup s.log.rows s.log.tail s.log.number None (submitted_from s.log.number s.log.begun) (second_flush s.batch) known.half.recs
half_while_checking s d h kept up known c is =
    subst (λ (o : Option (List RowOp)). ActiveHalfStands h s.log.sup s.log.rows s.log.tail s.log.number o (submitted_from s.log.number s.log.begun)
    (second_flush s.batch) known.half.recs) (ap begun_ops none) known.half.stands
  where
    none : s.log.begun ≡ None
    none = checking_none s d kept up (check_pieces s.log) c is

-- once the halves have changed places the other one stands
half_moves : {base : ℕ} (s s' : State) (d d' : Disk) (h : History) (f : Footprint s d s' d') → KnownOfUnits base s d h
    → (goes : HalfGoes d.flights f.touch (half_part s) (half_part s')) → IsMoved h (half_part s) goes
half_moves s s' d d' h f known (half.switches is) =
    let far = turned d.flights (ticket_of f.touch) (event_of f.touch) (other_part s) (other_part s') f.other (ap (λ (p : HalfPart). p.sup.epoch) is) in
    record { recs = check_records s.log.rows; stands = switch_makes h (other_part s) far.0 far.1 far.2 known.other }
half_moves s s' d d' h f known other = tt

-- ---- each call

pub footprint_known : (base : ℕ) (s s' : State) (d d' : Disk) (h : History) → (f : Footprint s d s' d') → IsKept s d → s.down ≡ None
    → KnownOfUnits base s d h → KnownOfUnits base s' d' (after f.touch h)
footprint_known base s s' d d' h f kept up known =
    let t : Touch = f.touch in
    let told : IsTold base s.events h d' t = told_of base s.events h d d' t f.device known.told known.answered in
    let size : IsUnits s.log.sup.units (last h.start h.log) = subst (λ (n : ℕ). IsUnits n (last h.start h.log)) (sym kept.always.units)
    (subst (λ o. IfSome o (λ k. IsUnits d.units (last k.start k.log))) known.told kept.always.device.size_now) in
    let units : AreKnown (after t h) (data_part s') =
    units_known base d.flights t (data_part s) (data_part s') h f.units f.placed size kept.always.limits
    (on_device s d kept up) known.answered.quiet known.answered.each told.next
    (record { clean = known.clean; held = known.held; flushed_units = to_part h s.batch known.flushed }) in
    let half : HalfStands (after t h) (half_part s') =
    half_known base d.flights t (half_part s) (half_part s') h f.half (half_moves s s' d d' h f known f.half)
    f.placed size kept.always.limits known.answered.quiet known.answered.each told.next
    (record { recs = known.half.recs; stands = known.half.stands }) in
    let other : OtherIsKnown (after t h) (other_part s') =
    other_known base d.flights t (other_part s) (other_part s') h f.other f.placed size kept.always.limits known.answered.quiet known.answered.each
    told.next (submitted_from s.log.number s.log.begun) (second_flush s.batch) known.half.recs (λ c is. half_while_checking s d h kept up known c is) known.other in
    record {
      told = told.told;
      answered = subst (IsAnsweredSince base (after t h) d'.flights) (sym f.counted) told.answered;
      other = other;
      half = record { recs = half.recs; stands = half.stands };
      clean = units.clean;
      held = units.held;
      flushed = of_part (after t h) s'.batch units.flushed_units;
    }

pub call_knows : (call : Call) (base : ℕ) (s s' : State) (d d' : Disk) (h : History) → IsKept s d → s'.down ≡ None → KnownOfUnits base s d h
    → Calls call s d s' d' → KnowsUnits base s' d'
call_knows call base s s' d d' h kept up known made =
    let f : Footprint s d s' d' = footprint_of call s d s' d' kept up made in
    record { history = after f.touch h; known = footprint_known base s s' d d' h f kept (was_up call s d s' d' made up) known }

pub call_keeps : (call : Call) (base : ℕ) (s s' : State) (d d' : Disk) (h h' : History) → IsKept s d → s'.down ≡ None → KnownOfUnits base s d h
    → Calls call s d s' d' → d'.history ≡ Some h' → KnownOfUnits base s' d' h'
call_keeps call base s s' d d' h h' kept up known made told =
    let knows : KnowsUnits base s' d' = call_knows call base s s' d d' h kept up known made in
    subst (KnownOfUnits base s' d') (same_Some knows.history h' (sym knows.known.told ∙ told)) knows.known

-- ---- a store that was just opened

pub opened_known : (base : ℕ) (f : Found) (recs : List (List RowOp)) (space : Space) (next events : ℕ) (d : Disk) (h : History) → d.history ≡ Some h
    → d.flights ≡ [] → IsAnsweredSince base h [] events → ((unit : ℕ) → IsClean h.log unit) → SlotsStand h f.sup
    → OtherHalfRests h f.sup (in_runs f.stale) → ActiveHalfStands h f.sup f.rows f.tail f.number None 0 not_sent recs
    → KnownOfUnits base (opened f space next events) d h
opened_known base f recs space next events d h told none answered clean slots rests half = record {
  told = told;
  answered = subst (λ (l : List Flight). IsAnsweredSince base h l events) (sym none) answered;
  other = (slots, rests);
  half = record { recs = recs; stands = half };
  clean = λ unit on other. clean unit;
  held = tt;
  flushed = tt;
}
