-- What a call makes of the data units that contexts took.
use Rattle.std.specs.Prelude.{◌≡◌, ℕ, ◌+◌, List, [], ◌∷◌, ◌++◌, length}
use Rattle.std.specs.List.{AllByRecursion}
use Rattle.std.specs.List.Sorted.{IsPermutation}
use Rattle.block_device.specs.Prelude.{WritesUnit, Flight, IsUntouched}
use Rattle.block_device.specs.declared.event.Event.{Event}
use Rattle.meta_log.specs.Prelude.{next_super}
use Rattle.log_facts.specs.Prelude.{not_sent, sent, flushed}
use Rattle.plan_rows.specs.declared.plan.FreshUnit.{FreshUnit}
use Rattle.store_steps.specs.Contexts.{Unsent, unsent_units}
use Rattle.store_steps.specs.Parts.{DataPart}
use Rattle.store_steps.specs.Touch.{Touch, nothing, ends, flushes, on_data, run_write, IsNoData}

-- the units stand one behind the other, from this one on
abbrev pub IsInRow : ℕ → List FreshUnit → Type 0
IsInRow u [] = Unit {0}
IsInRow u (f ∷ fs) = (f.unit ≡ u) × IsInRow (u + 1) fs

-- the event writes none of these
abbrev pub Spares : Event → List FreshUnit → Type 0
Spares e fresh = AllByRecursion (λ f. ¬ WritesUnit f.unit e) fresh

-- A run of whole units is submitted. None of them is one of those given before, nor of the batch's.
pub record SubmitsRun (run : Unsent) (p q : DataPart) : Type 0 where
  pub front : List FreshUnit
  pub back : List FreshUnit
  pub before : p.given ≡ front ++ back
  pub then : q ≡ record p { given = front ++ (unsent_units run ++ back) }
  pub row : IsInRow run.first.unit (unsent_units run)
  pub whole : AllByRecursion (λ f. length f.bytes ≡ 4096) (unsent_units run)
  pub others : Spares (run_write run) (front ++ back)
  pub batch : Spares (run_write run) p.fresh

-- They stay, with no data write; a run is submitted; a batch is opened, whose units were all given and come first; its flush is submitted, while none
-- of them is in flight, and ends; it is committed, and its units are no longer among them; or the halves change places, where the next record's
-- number is this.
pub data DataGoes (flights : List Flight) : Touch → DataPart → DataPart → Type 0 where
  same : {t : Touch} {p q : DataPart} → IsNoData t → q ≡ p → DataGoes flights t p q
  gives : {p q : DataPart} (ticket : ℕ) (run : Unsent) → SubmitsRun run p q → DataGoes flights (on_data ticket run) p q
  opens : {p q : DataPart} (fresh rest : List FreshUnit) → IsPermutation p.given (fresh ++ rest)
      → q ≡ record p { given = fresh ++ rest; fresh = fresh; first = not_sent } → DataGoes flights nothing p q
  flushes_batch : {p q : DataPart} (ticket : ℕ) → AllByRecursion (λ f. IsUntouched flights f.unit) p.fresh → q ≡ record p { first = sent ticket }
      → DataGoes flights (flushes ticket) p q
  is_flushed : {p q : DataPart} (ticket : ℕ) → p.first ≡ sent ticket → q ≡ record p { first = flushed } → DataGoes flights (ends ticket) p q
  retires : {p q : DataPart} (rest : List FreshUnit) → p.first ≡ flushed → p.given ≡ p.fresh ++ rest
      → q ≡ record p { given = rest; fresh = []; first = not_sent } → DataGoes flights nothing p q
  switches : {p q : DataPart} (number : ℕ) → q ≡ record p { sup = next_super p.sup number } → DataGoes flights nothing p q
