-- What is known of the data units, over an event that writes none of them, and as a batch is flushed and committed.
use Rattle.std.proofs.Common.{◌≡◌, ◌≢◌, ◌⊎◌, inl, inr, true, ℕ, ◌+◌, ◌*◌, ◌≤◌, List, [], ◌∷◌, length}
use Rattle.std.proofs.Common.{sym, subst}
use Rattle.std.proofs.Common.{◌∙◌, arith}
use Rattle.std.specs.List.{AllByRecursion}
use Rattle.std.proofs.lemmas.Bool.{cases_eq}
use Rattle.block_device.specs.Prelude.{last, WritesUnit, WritesNothing, IsClean, History, with_event, EventFits}
use Rattle.block_device.specs.declared.event.Event.{Event}
use Rattle.block_device.specs.declared.event.Event.TheVariants.{Write, Flush, Done}
use Rattle.block_device.proofs.LogLemmas.{clean_push}
use Rattle.meta_log.specs.declared.slot.Super.{Super}
use Rattle.meta_log.specs.Prelude.{data_unit, other_unit, other_slot, next_super}
use Rattle.store_image.specs.Prelude.{IsDataUnit}
use Rattle.log_facts.specs.Prelude.{FlushState, not_sent, sent, flushed}
use Rattle.log_facts.proofs.Keeping.{half_before_data, half_spares_data, last_push, flushed_push, flush_ended, nothing_written}
use Rattle.log_facts.proofs.Switching.{follows}
use Rattle.plan_rows.specs.declared.plan.FreshUnit.{FreshUnit}
use Rattle.store_steps.specs.Prelude.{Spares}
use Rattle.unit_facts.specs.DataUnits.{DataUnitsAreClean, HeldBytesAreLast, UnitsAreFlushed}

-- ---- the fresh units are data units

abbrev pub AreOnData : Super → List FreshUnit → Type 0
AreOnData s fresh = AllByRecursion (λ f. IsDataUnit s f.unit) fresh

-- ---- the other half, and the other slot, lie before the data units

pub other_before_data : (s : Super) → other_unit s + s.half ≤ data_unit s
other_before_data s = subst (λ (n : ℕ). n + s.half ≤ data_unit s) (sym (follows s 0)) (half_before_data (next_super s 0))

pub other_spares_data : (s : Super) (at unit : ℕ) (bytes : List ℕ) → 4096 * at + length bytes ≤ 4096 * (other_unit s + s.half) → data_unit s ≤ unit
    → ¬ WritesUnit unit (Write at bytes)
other_spares_data s at unit bytes inside behind = half_spares_data (next_super s 0) at unit bytes
    (subst (λ (n : ℕ). 4096 * at + length bytes ≤ 4096 * (n + s.half)) (follows s 0) inside) behind

pub slot_spares_data : (s : Super) (at unit : ℕ) (bytes : List ℕ) → at ≡ other_slot s → length bytes ≡ 4096 → data_unit s ≤ unit
    → ¬ WritesUnit unit (Write at bytes)
slot_spares_data s at unit bytes is size behind covers = omega (arith, is, size, behind, covers.1)

-- ---- an event that writes none of the data units

pub spares_data : (s : Super) (e : Event) (fresh : List FreshUnit) → ((unit : ℕ) → IsDataUnit s unit → ¬ WritesUnit unit e)
    → AreOnData s fresh → Spares e fresh
spares_data s e [] spared are = tt
spares_data s e (f ∷ fresh) spared are = (spared f.unit are.0, spares_data s e fresh spared are.1)

pub none_written : (e : Event) (unit : ℕ) → WritesNothing e → ¬ WritesUnit unit e
none_written e unit none = nothing_written unit 1 e none unit (omega arith) (omega arith)

pub fits_quiet : (size : ℕ) (e : Event) → WritesNothing e → EventFits size e
fits_quiet size (Write at bytes) none = absurd none
fits_quiet size Flush none = tt
fits_quiet size (Done ticket ok) none = tt

pub clean_on : (h : History) (s : Super) (e : Event) (given : List FreshUnit) → ((unit : ℕ) → data_unit s ≤ unit → ¬ WritesUnit unit e)
    → DataUnitsAreClean h s given → DataUnitsAreClean (with_event h e) s given
clean_on h s e given spared clean unit is other = clean_push h.log e unit (clean unit is other) (spared unit is)

pub held_on : (h : History) (e : Event) (given : List FreshUnit) → EventFits (length (last h.start h.log)) e → Spares e given
    → HeldBytesAreLast h given → HeldBytesAreLast (with_event h e) given
held_on h e [] fits spared held = tt
held_on h e (f ∷ given) fits spared held = (last_push h e f.unit fits spared.0 ∙ held.0, held_on h e given fits spared.1 held.1)

pub flushed_on : (h : History) (e : Event) (state : FlushState) (fresh : List FreshUnit) → Spares e fresh
    → UnitsAreFlushed h state fresh → UnitsAreFlushed (with_event h e) state fresh
flushed_on h e state [] spared are = tt
flushed_on h e state (f ∷ fresh) spared are = (flushed_push h e state f.unit spared.0 are.0, flushed_on h e state fresh spared.1 are.1)

-- ---- a flush of these units

pub none_flushed : (h : History) (fresh : List FreshUnit) → UnitsAreFlushed h not_sent fresh
none_flushed h [] = tt
none_flushed h (f ∷ fresh) = (tt, none_flushed h fresh)

-- it has ended well
pub units_cleaned : (h : History) (flush : ℕ) (fresh : List FreshUnit) → UnitsAreFlushed h (sent flush) fresh
    → UnitsAreFlushed (with_event h (Done flush true)) flushed fresh
units_cleaned h flush [] are = tt
units_cleaned h flush (f ∷ fresh) are = (flush_ended h flush f.unit are.0, units_cleaned h flush fresh are.1)

-- ---- once its flush has ended a batch leaves all units behind the log clean

-- the unit is none of these, or clean as they are
pub other_or_clean : (h : History) (fresh : List FreshUnit) (unit : ℕ) → UnitsAreFlushed h flushed fresh
    → AllByRecursion (λ f. f.unit ≢ unit) fresh ⊎ IsClean h.log unit
other_or_clean h [] unit are = inl tt
other_or_clean h (f ∷ fresh) unit are = elim (cases_eq f.unit unit) [
  | inl same ↦ inr (subst (IsClean h.log) same are.0)
  | inr other ↦
      elim (other_or_clean h fresh unit are.1) [
        | inl others ↦ inl (other, others)
        | inr clean ↦ inr clean
      ]
]
