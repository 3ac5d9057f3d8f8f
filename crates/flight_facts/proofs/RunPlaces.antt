-- A run of fresh units as it is written: where it stands among those of its context, and that its write spares those given before.
use Rattle.std.proofs.Common.{◌≡◌, ℕ, suc, ◌+◌, ◌*◌, ◌<◌, ◌≤◌, List, [], ◌∷◌, ◌++◌, length, map, take, drop, sym, ap, subst, ◌∙◌, arith}
use Rattle.flight_facts.proofs.Common.{AllByRecursion, Ascends, FreshUnit, Context}
use Rattle.std.proofs.lemmas.List.{take-append-drop}
use Rattle.block_device.specs.declared.event.Event.TheVariants.{Write}
use Rattle.meta_log.specs.declared.slot.Super.{Super}
use Rattle.store_image.specs.Prelude.{IsDataUnit}
use Rattle.store_steps.specs.Prelude.{run_bytes, Unsent, unsent_units, intent_of, Spares}
use Rattle.flight_facts.specs.Prelude.{FitsRecord}
use Rattle.flight_facts.proofs.Lists.{all_left}
use Rattle.flight_facts.proofs.RunUnits.{IsRunOf, row_bytes, row_at, all_drop}

-- each unit is whole
abbrev pub AreWholeUnits : List FreshUnit → Type 0
AreWholeUnits fs = AllByRecursion (λ f. length f.bytes ≡ 4096) fs

-- ---- its write spares units before its first
pub earlier_spared : (u : ℕ) (bytes : List ℕ) (fs : List FreshUnit) → AllByRecursion (λ f. f.unit < u) fs → Spares (Write u bytes) fs
earlier_spared u bytes [] before = tt
earlier_spared u bytes (f ∷ fs) before = (λ covers. omega (arith, covers.0, before.0), earlier_spared u bytes fs before.1)

-- ---- its place among the fresh units of its context

all_middle : (P : ℕ → Type 0) (front : List FreshUnit) (f : FreshUnit) (rest : List FreshUnit)
    → AllByRecursion P (map (λ g. g.unit) (front ++ f ∷ rest)) → P f.unit
all_middle P [] f rest all = all.0
all_middle P (g ∷ front) f rest all = all_middle P front f rest all.1

-- units that ascend stand before those behind them
front_before : (front : List FreshUnit) (f : FreshUnit) (rest : List FreshUnit) → Ascends (map (λ g. g.unit) (front ++ f ∷ rest))
    → AllByRecursion (λ g. g.unit < f.unit) front
front_before [] f rest ascend = tt
front_before (g ∷ front) f rest ascend = (all_middle (λ v. g.unit < v) front f rest ascend.0, front_before front f rest ascend.1)

module _ (x : Context) (n : Unsent) (run : IsRunOf x n) where
  abbrev count : ℕ
  count = length (unsent_units n)

  -- what holds of all holds of those of the run
  pub run_has : (P : FreshUnit → Type 0) → AllByRecursion P x.fresh → AllByRecursion P (unsent_units n)
  run_has P all = all_left P (unsent_units n) (drop (x.given + count) x.fresh) (subst (AllByRecursion P) run.left (all_drop P x.given x.fresh all))

  pub run_whole : FitsRecord (intent_of x) → AreWholeUnits (unsent_units n)
  run_whole fits = run_has (λ f. length f.bytes ≡ 4096) fits.whole

  -- those that were given before stand before the run
  pub given_before : FitsRecord (intent_of x) → AllByRecursion (λ f. f.unit < n.first.unit) (take x.given x.fresh)
  given_before fits = front_before (take x.given x.fresh) n.first (n.more ++ drop (x.given + count) x.fresh)
      (subst (λ (fs : List FreshUnit). Ascends (map (λ f. f.unit) fs))
      (sym (take-append-drop x.given x.fresh) ∙ ap (λ (fs : List FreshUnit). take x.given x.fresh ++ fs) run.left) fits.ascend)

  -- it lies on the device
  pub run_inside : (s : Super) → FitsRecord (intent_of x) → AllByRecursion (λ f. IsDataUnit s f.unit) (unsent_units n)
      → 4096 * n.first.unit + length (run_bytes (unsent_units n)) ≤ 4096 * s.units
  run_inside s fits are =
      let last_is : IsDataUnit s (n.first.unit + length n.more) =
      row_at (IsDataUnit s) n.first.unit (unsent_units n) run.row are (n.first.unit + length n.more) (omega arith) (omega arith) in
      within n.first.unit (length n.more) s.units (length (run_bytes (unsent_units n))) last_is.1 (row_bytes (unsent_units n) (run_whole fits))
    where
      within : (u more units size : ℕ) → u + more < units → size ≡ 4096 * suc more → 4096 * u + size ≤ 4096 * units
      within u more units size last_is is = omega (arith, last_is, is)
