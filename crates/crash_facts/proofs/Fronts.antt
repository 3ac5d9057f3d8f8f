-- The first contexts under way, all of whose units have reached the device: with their operations the rows stand, over the bytes last written, for
-- the objects with their transactions, and so do fair selections of those behind them.
use Rattle.std.proofs.Common.{◌≡◌, ◌≢◌, ℕ, List, ◌++◌, Contains, None, sym, ap, subst, ◌∙◌}
use Rattle.std.specs.List.{AllByRecursion}
use Rattle.std.proofs.lemmas.List.Concat.{flat_map-append}
use Rattle.std.proofs.lemmas.List.Elements.{filter_map-append}
use Rattle.unit_fields.specs.declared.width.Width.{Width}
use Rattle.block_device.specs.Prelude.{Disk, History, last_at}
use Rattle.object_model.specs.Prelude.{Objects, replay, change_at}
use Rattle.object_model.specs.declared.book.Entry.{Entry}
use Rattle.object_model.proofs.Replays.{replay-append}
use Rattle.meta_rows.specs.Prelude.{Rows}
use Rattle.meta_log.specs.Prelude.{width_of}
use Rattle.store_image.specs.Prelude.{IsOwned, IsMarked, ObjectsStand}
use Rattle.store_image.proofs.Prelude.{objects_stand, page_owned}
use Rattle.log_facts.specs.Prelude.{flushed, SoundFor}
use Rattle.plan_rows.specs.declared.plan.FreshUnit.{FreshUnit}
use Rattle.plan_rows.specs.Prelude.{IsGood}
use Rattle.plan_rows.proofs.OnData.{owned_on_data}
use Rattle.selections.proofs.Selecting.{fair_behind}
use Rattle.space_facts.proofs.Prelude.{rows_append, batch_fair, good_committed, pending_unmarked}
use Rattle.store_steps.specs.declared.context.Context.{Context}
use Rattle.store_steps.specs.Prelude.{State, Intent, intents, is_in, rows_by, EachIsPlanned, AreTakenApart, uncommitted, all_fresh, given_fresh, rows_part}
use Rattle.run_facts.specs.Prelude.{IsAllGiven, IsKept, AreRowsKept}
use Rattle.run_facts.proofs.Prelude.{all_left, units_of, taken_by, flat_intents, intents_both, taken_fresh, given_taken, parts_apart, given_all}
use Rattle.book_facts.specs.Prelude.{IsFairSelection, changes_of, SelectionsStand}
use Rattle.unit_facts.specs.DataUnits.{HeldBytesAreLast, UnitsAreFlushed, DataUnitsAreClean}
use Rattle.unit_facts.proofs.DataKnown.{retired}
use Rattle.crash_facts.specs.HeldBytes.{bytes_with, held_or_last}
use Rattle.crash_facts.proofs.Bytes.{fresh_are, not_fresh, front_held}

module _ (s : State) (d : Disk) (kept : IsKept s d) (up : s.down ≡ None) (front back : List Context) (are : uncommitted s ≡ front ++ back) where
  abbrev xs : List Intent
  xs = intents (uncommitted s)

  abbrev w : Width
  w = width_of s.log.sup

  -- the rows with their operations
  abbrev then_rows : Rows
  then_rows = rows_by s.log.rows (intents front)

  rows : AreRowsKept (rows_part s)
  rows = (kept.up up).rows

  both : xs ≡ intents front ++ intents back
  both = ap intents are ∙ intents_both front back

  planned : EachIsPlanned s.log.sup s.log.rows (intents front ++ intents back)
  planned = subst (EachIsPlanned s.log.sup s.log.rows) both rows.planned

  apart : AreTakenApart s.log.rows (intents front ++ intents back)
  apart = subst (AreTakenApart s.log.rows) both rows.apart

  pub front_fair : IsFairSelection xs (intents front)
  front_fair = subst (λ (l : List Intent). IsFairSelection l (intents front)) (sym both)
      (batch_fair s.log.sup s.log.rows (intents front) (intents back) rows.good planned)

  front_good : IsGood s.log.sup then_rows
  front_good = good_committed s.log.sup s.log.rows (intents front) (intents back) rows.good planned

  -- what is owned in their rows is none of what those behind them took
  not_behind : (unit : ℕ) → IsOwned w then_rows unit → (u : ℕ) → Contains (taken_by back) u → u ≢ unit
  not_behind unit owned u c same = pending_unmarked s.log.sup s.log.rows (intents front) (intents back) rows.good planned apart kept.always.limits u
      (subst (λ (l : List ℕ). Contains l u) (sym (flat_intents (λ x. units_of x.fresh) back)) c)
      (subst (IsMarked then_rows) (sym same) (front_good.exact.owned_marked unit owned))

  module _ (h : History) (given : AllByRecursion IsAllGiven front) (held : HeldBytesAreLast h (given_fresh (uncommitted s))) where
    given_are : given_fresh (uncommitted s) ≡ all_fresh front ++ given_fresh back
    given_are = ap given_fresh are ∙ given_all front back given

    none_behind : AllByRecursion (λ f. AllByRecursion (λ g. g.unit ≢ f.unit) (all_fresh back)) (all_fresh front)
    none_behind = taken_fresh (λ u. AllByRecursion (λ g. g.unit ≢ u) (all_fresh back)) front
        (λ u c. taken_fresh (λ v. v ≢ u) back (λ v e same. parts_apart s d kept up front back are u c (subst (Contains (taken_by back)) same e)))

    -- their units hold what they are to hold
    bytes_same : (unit : ℕ) → held_or_last h xs unit ≡ held_or_last h (intents back) unit
    bytes_same unit =
        ap (λ (fs : List FreshUnit). bytes_with fs (last_at h) unit)
        (fresh_are (uncommitted s) ∙ ap all_fresh are ∙ flat_map-append (λ (x : Context). x.fresh) front back)
        ∙ front_held (all_fresh front) (all_fresh back) (last_at h) unit
        (all_left (λ (f : FreshUnit). last_at h f.unit ≡ f.bytes) (all_fresh front) (given_fresh back) (subst (HeldBytesAreLast h) given_are held)) none_behind
        ∙ ap (λ (fs : List FreshUnit). bytes_with fs (last_at h) unit) (sym (fresh_are back))

    module _ (objects : Objects) (es : List Entry) (stand : SelectionsStand w (held_or_last h xs) s.log.rows xs objects es) where
      abbrev later : Objects
      later = replay objects (changes_of es (intents front))

      -- those behind them stand over their rows
      pub behind_stand : SelectionsStand w (held_or_last h (intents back)) then_rows (intents back) later es
      behind_stand some fair =
          let all : List Intent = intents front ++ some in
          let fair' : IsFairSelection xs all = subst (λ (l : List Intent). IsFairSelection l all) (sym both)
          (fair_behind is_in (intents front) (intents back) some fair) in
          subst (λ (r : Rows). ObjectsStand w (held_or_last h (intents back)) r (replay later (changes_of es some))) (rows_append s.log.rows (intents front) some)
          (subst (ObjectsStand w (held_or_last h (intents back)) (rows_by s.log.rows all))
          (ap (replay objects) (filter_map-append (λ (y : Intent). change_at es y.place) (intents front) some)
          ∙ replay-append objects (changes_of es (intents front)) (changes_of es some))
          (objects_stand w (held_or_last h xs) (held_or_last h (intents back)) (rows_by s.log.rows all) (λ unit has. bytes_same unit)
          (replay objects (changes_of es all)) (stand all fair')))

      -- once their units are flushed a crash that leaves their rows leaves these objects
      pub front_sound : UnitsAreFlushed h flushed (all_fresh front) → DataUnitsAreClean h s.log.sup (given_fresh (uncommitted s))
          → SoundFor h s.log.sup then_rows later
      front_sound flushed_units clean = record {
        good = front_good.good;
        stand = objects_stand w (held_or_last h xs) (last_at h) then_rows (λ unit has. over_last unit (page_owned w then_rows front_good.exact.counts unit has)) later
            (stand (intents front) front_fair);
        clean = λ unit has.
            let owned : IsOwned w then_rows unit = page_owned w then_rows front_good.exact.counts unit has in
            retired h s.log.sup (all_fresh front) (given_fresh back) flushed_units (subst (DataUnitsAreClean h s.log.sup) given_are clean) unit
            (owned_on_data s.log.sup then_rows unit front_good.good owned).0
            (given_taken (λ u. u ≢ unit) back (not_behind unit owned));
      }
        where
          over_last : (unit : ℕ) → IsOwned w then_rows unit → held_or_last h xs unit ≡ last_at h unit
          over_last unit owned = bytes_same unit
              ∙ ap (λ (fs : List FreshUnit). bytes_with fs (last_at h) unit) (fresh_are back)
              ∙ not_fresh (all_fresh back) (last_at h) unit (taken_fresh (λ u. u ≢ unit) back (not_behind unit owned))
