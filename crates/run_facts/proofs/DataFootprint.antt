-- The footprint of Data.
use Rattle.std.proofs.Common.{◌≡◌, ℕ, ◌+◌, ◌*◌, ◌<◌, List, [], ◌∷◌, ◌++◌, length, take, true, Contains, Option, Some, None, refl, sym, ap, subst, ◌∙◌, append_assoc, arith}
use Rattle.run_facts.proofs.Common.{AllByRecursion, option_map_or, Disk, IsDataUnit, FreshUnit, Context}
use Rattle.block_device.specs.Prelude.{WritesUnit}
use Rattle.store_steps.specs.declared.step.Step.TheVariants as step
use Rattle.store_steps.specs.Prelude.{Batch, State, Unsent, unsent_units, run_bytes, given_more, with_context, is_ready, DoesData, uncommitted, all_fresh, given_fresh, Intent, rows_part, data_part, on_data, run_write, IsPlaced, IsInRow, Spares, SubmitsRun, Footprint}
use Rattle.store_steps.specs.RowsGo as rows
use Rattle.store_steps.specs.DataGoes as units
use Rattle.store_steps.specs.HalfGoes as half
use Rattle.store_steps.specs.BookGoes as book
use Rattle.switch_facts.specs.OtherGoes as other
use Rattle.flight_facts.proofs.Prelude.{intents_kept, all_then, all_join, IsRunOf, given_units, row_at, row_bytes, run_has, run_inside, given_before, earlier_spared, ready_not_down, with_in}
use Rattle.run_facts.specs.Prelude.{IsKept}
use Rattle.run_facts.proofs.Conditions.{ReadyData}
use Rattle.run_facts.proofs.RowsFacts.{units_of, taken_by, next_on_data}
use Rattle.run_facts.proofs.Apart.{fresh_taken, given_taken, taken_fresh, AreOthers, others_apart}
use Rattle.run_facts.proofs.Known.{known_data}
use Rattle.run_facts.proofs.OtherHalf.{placed_elsewhere}
use Rattle.run_facts.proofs.PartsKept.{given_both}

-- what is given of contexts of which one is in the middle
given_middle : (batch front : List Context) (x : Context) (back : List Context)
    → given_fresh (batch ++ (front ++ x ∷ back)) ≡ (given_fresh batch ++ (given_fresh front ++ take x.given x.fresh)) ++ given_fresh back
given_middle batch front x back =
    given_both batch (front ++ x ∷ back) ∙ ap (λ (fs : List FreshUnit). given_fresh batch ++ fs) (given_both front (x ∷ back))
    ∙ sym (append_assoc (given_fresh batch) (given_fresh front ++ take x.given x.fresh) (given_fresh back)
    ∙ ap (λ (fs : List FreshUnit). given_fresh batch ++ fs) (append_assoc (given_fresh front) (take x.given x.fresh) (given_fresh back)))

-- the write of a run spares units that aren't of it
run_spares : (n : Unsent) → IsInRow n.first.unit (unsent_units n) → AllByRecursion (λ f. length f.bytes ≡ 4096) (unsent_units n) → (fs : List FreshUnit)
    → AllByRecursion (λ g. AllByRecursion (λ f. f.unit ≡ g.unit → ⊥) (unsent_units n)) fs → Spares (run_write n) fs
run_spares n row whole [] out = tt
run_spares n row whole (g ∷ fs) out = (
  λ covers. row_at (λ k. k ≡ g.unit → ⊥) n.first.unit (unsent_units n) row out.0 g.unit covers.0
      (inside n.first.unit g.unit (length (unsent_units n)) (length (run_bytes (unsent_units n))) (row_bytes (unsent_units n) whole) covers.1) refl,
  run_spares n row whole fs out.1,
)
  where
    inside : (first unit count size : ℕ) → size ≡ 4096 * count → 4096 * unit < 4096 * first + size → unit < first + count
    inside first unit count size is below = omega (arith, is, below)

-- a run of which no unit is among these spares what was taken
away : (run : List FreshUnit) (us : List ℕ) → AllByRecursion (λ f. Contains us f.unit → ⊥) run → (u : ℕ) → Contains us u
    → AllByRecursion (λ f. f.unit ≡ u → ⊥) run
away run us out u c = all_then (λ f. Contains us f.unit → ⊥) (λ f. f.unit ≡ u → ⊥) (λ f none same. none (subst (Contains us) (sym same) c)) run out

module _ (s : State) (d : Disk) (kept : IsKept s d) (up : s.down ≡ None) (n : Unsent) (r : ReadyData s n) where
  abbrev x : Context
  x = (r.at).item

  abbrev front : List Context
  front = (r.at).front

  abbrev back : List Context
  back = (r.at).back

  abbrev run : IsRunOf x n
  run = (r.at).holds

  abbrev count : ℕ
  count = length (unsent_units n)

  abbrev batch : List Context
  batch = option_map_or (λ (b : Batch). b.contexts) s.batch []

  -- the contexts behind it
  then : with_context n.place (given_more count) s.pending ≡ front ++ given_more count x ∷ back
  then = ap (λ (place : ℕ). with_context place (given_more count) s.pending) (sym run.place)
      ∙ with_in (given_more count) front x back s.pending (r.at).is (kept.up up).flights.places.ascend

  -- what was given, and what is given then
  before : given_fresh (uncommitted s) ≡ (given_fresh batch ++ (given_fresh front ++ take x.given x.fresh)) ++ given_fresh back
  before = ap (λ (xs : List Context). given_fresh (batch ++ xs)) (r.at).is ∙ given_middle batch front x back

  behind : given_fresh (batch ++ with_context n.place (given_more count) s.pending)
      ≡ (given_fresh batch ++ (given_fresh front ++ take x.given x.fresh)) ++ (unsent_units n ++ given_fresh back)
  behind = ap (λ (xs : List Context). given_fresh (batch ++ xs)) then ∙ given_middle batch front (given_more count x) back
      ∙ ap (λ (fs : List FreshUnit). (given_fresh batch ++ (given_fresh front ++ fs)) ++ given_fresh back) (given_units x n run)
      ∙ ap (λ (fs : List FreshUnit). (given_fresh batch ++ fs) ++ given_fresh back) (sym (append_assoc (given_fresh front) (take x.given x.fresh) (unsent_units n)))
      ∙ ap (λ (fs : List FreshUnit). fs ++ given_fresh back)
      (sym (append_assoc (given_fresh batch) (given_fresh front ++ take x.given x.fresh) (unsent_units n)))
      ∙ append_assoc (given_fresh batch ++ (given_fresh front ++ take x.given x.fresh)) (unsent_units n) (given_fresh back)

  -- none of its units is another context's
  own : AllByRecursion (λ f. Contains (units_of x.fresh) f.unit) (unsent_units n)
  own = run_has x n run (λ f. Contains (units_of x.fresh) f.unit) (fresh_taken (Contains (units_of x.fresh)) x.fresh (λ u c. c))

  others : (f : FreshUnit) → Contains (units_of x.fresh) f.unit → AreOthers s d kept up front back f.unit
  others f c = others_apart s d kept up front x back (r.at).is f.unit c

  spares : (fs : List FreshUnit) → AllByRecursion (λ g. AllByRecursion (λ f. f.unit ≡ g.unit → ⊥) (unsent_units n)) fs → Spares (run_write n) fs
  spares fs = run_spares n run.row r.whole fs

  of_batch : AllByRecursion (λ f. Contains (taken_by batch) f.unit → ⊥) (unsent_units n)
  of_batch = all_then (λ f. Contains (units_of x.fresh) f.unit) (λ f. Contains (taken_by batch) f.unit → ⊥) (λ f c. (others f c).batch) (unsent_units n) own

  of_front : AllByRecursion (λ f. Contains (taken_by front) f.unit → ⊥) (unsent_units n)
  of_front = all_then (λ f. Contains (units_of x.fresh) f.unit) (λ f. Contains (taken_by front) f.unit → ⊥) (λ f c. (others f c).ahead) (unsent_units n) own

  of_back : AllByRecursion (λ f. Contains (taken_by back) f.unit → ⊥) (unsent_units n)
  of_back = all_then (λ f. Contains (units_of x.fresh) f.unit) (λ f. Contains (taken_by back) f.unit → ⊥) (λ f c. (others f c).behind) (unsent_units n) own

  gives : SubmitsRun n (data_part s) (record (data_part s) { given = given_fresh (batch ++ with_context n.place (given_more count) s.pending) })
  gives = record {
    front = given_fresh batch ++ (given_fresh front ++ take x.given x.fresh);
    back = given_fresh back;
    before = before;
    then = ap (λ (fs : List FreshUnit). record (data_part s) { given = fs }) behind;
    row = run.row;
    whole = r.whole;
    others = all_join Spared (given_fresh batch ++ (given_fresh front ++ take x.given x.fresh)) (given_fresh back)
        (all_join Spared (given_fresh batch) (given_fresh front ++ take x.given x.fresh)
        (spares (given_fresh batch) (given_taken Away batch (away (unsent_units n) (taken_by batch) of_batch)))
        (all_join Spared (given_fresh front) (take x.given x.fresh)
        (spares (given_fresh front) (given_taken Away front (away (unsent_units n) (taken_by front) of_front)))
        (earlier_spared n.first.unit (run_bytes (unsent_units n)) (take x.given x.fresh) (given_before x n run r.fits))))
        (spares (given_fresh back) (given_taken Away back (away (unsent_units n) (taken_by back) of_back)));
    batch = of_open s.batch of_batch;
  }
    where
      Spared : FreshUnit → Type 0
      Spared f = ¬ WritesUnit f.unit (run_write n)

      Away : ℕ → Type 0
      Away u = AllByRecursion (λ f. f.unit ≡ u → ⊥) (unsent_units n)

      of_open : (o : Option Batch) → AllByRecursion (λ f. Contains (taken_by (option_map_or (λ (b : Batch). b.contexts) o [])) f.unit → ⊥) (unsent_units n)
          → Spares (run_write n) (option_map_or (λ (b : Batch). all_fresh b.contexts) o [])
      of_open None out = tt
      of_open (Some b) out = spares (all_fresh b.contexts) (taken_fresh Away b.contexts (away (unsent_units n) (taken_by b.contexts) out))

pub data_footprint : (s : State) (d : Disk) (s' : State) (d' : Disk) → IsKept s d → is_ready step.Data d.depth s ≡ true → DoesData s d s' d'
    → Footprint s d s' d'
data_footprint s d s' d' kept ready does =
    let n : Unsent = does.next in
    let up : s.down ≡ None = ready_not_down s d.depth step.Data refl ready in
    let r : ReadyData s n = known_data s d n kept ready does.is_next in
    let are : AllByRecursion (λ (f : FreshUnit). IsDataUnit s.log.sup f.unit) (unsent_units n) = next_on_data s d kept up n does.is_next in
    let placed : IsPlaced s.log.sup (on_data does.ticket.place n) = (are, run_inside (r.at).item n (r.at).holds s.log.sup r.fits are) in
    subst (λ (t : State). Footprint s d t d') (sym does.after) (record {
      touch = on_data does.ticket.place n;
      device = does.submitted;
      placed = placed;
      counted = refl;
      rows = rows.same (ap (λ (is : List Intent). record (rows_part s) { intents = is })
          (intents_kept n.place (given_more (length (unsent_units n))) (λ x. refl) (option_map_or (λ (b : Batch). b.contexts) s.batch []) s.pending));
      units = units.gives does.ticket.place n (gives s d kept up n r);
      half = half.same tt refl;
      other = other.same (placed_elsewhere s.log.sup (on_data does.ticket.place n) tt placed) refl;
      book = book.same refl;
      caused = tt;
    })
