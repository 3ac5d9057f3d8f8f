-- What a kernel that is up needs to know of units: those that it takes, writes and gives back.
use Rattle.std.proofs.Common.{◌≡◌, ℕ, false, List, [], ◌∷◌, ◌++◌, map, Contains, Some, None, sym, ap, subst, ◌∙◌}
use Rattle.run_facts.proofs.Common.{flat_map, AllByRecursion, option_map_or, Disk, Super, IsDataUnit, FreshUnit, is_free, given, Context}
use Rattle.std.proofs.lemmas.List.Elements.{Contains-append_left, Contains-append_right}
use Rattle.unit_allocator.proofs.Lists.{Contains-head, Contains-tail}
use Rattle.selections.proofs.Selecting.{fair_all}
use Rattle.store_steps.specs.Prelude.{Batch, State, Unsent, unsent_units, next_unsent, batch_released, Intent, intents, is_in, released_by, EachIsPlanned, AreTakenApart, SpaceIsCounted, uncommitted, rows_part}
use Rattle.space_facts.proofs.Prelude.{selected_on_data, released_on_data, not_idle_until, busy_is_not_free}
use Rattle.flight_facts.proofs.Prelude.{StandsIn, IsRunOf, run_has, next_stands, all_at}
use Rattle.run_facts.specs.Prelude.{AreRowsKept, IsKept}
use Rattle.run_facts.proofs.SpaceUnits.{AreData, data_within}
use Rattle.run_facts.proofs.PartsKept.{flat_intents, intents_both}

-- ---- the units that contexts took

abbrev pub units_of : List FreshUnit → List ℕ
units_of fresh = map (λ f. f.unit) fresh

abbrev pub taken_by : List Context → List ℕ
taken_by xs = flat_map (λ x. units_of x.fresh) xs

pub behind_batch : (front xs : List Context) (u : ℕ) → Contains (taken_by xs) u → Contains (taken_by (front ++ xs)) u
behind_batch [] xs u c = c
behind_batch (x ∷ front) xs u c = Contains-append_right (units_of x.fresh) (taken_by (front ++ xs)) u (behind_batch front xs u c)

fresh_are : (s : Super) (fresh : List FreshUnit) → AreData s (units_of fresh) → AllByRecursion (λ f. IsDataUnit s f.unit) fresh
fresh_are s [] all = tt
fresh_are s (f ∷ fresh) all =
    (all f.unit (Contains-head f.unit (units_of fresh)), fresh_are s fresh (λ u c. all u (Contains-tail f.unit u (units_of fresh) c)))

each_on_data : (s : Super) (xs : List Context) → AreData s (taken_by xs) → AllByRecursion (λ x. AllByRecursion (λ f. IsDataUnit s f.unit) x.fresh) xs
each_on_data s [] all = tt
each_on_data s (x ∷ xs) all = (
  fresh_are s x.fresh (λ u c. all u (Contains-append_left (units_of x.fresh) (taken_by xs) u c)),
  each_on_data s xs (λ u c. all u (Contains-append_right (units_of x.fresh) (taken_by xs) u c)),
)

module _ (s : State) (d : Disk) (kept : IsKept s d) (up : s.down ≡ None) where
  rows : AreRowsKept (rows_part s)
  rows = (kept.up up).rows

  abbrev xs : List Intent
  xs = intents (uncommitted s)

  -- they are data units
  pub taken_data : AreData s.log.sup (taken_by (uncommitted s))
  taken_data u c = selected_on_data s.log.sup s.log.rows xs rows.good rows.planned xs (fair_all is_in xs) u
      (subst (λ us. Contains us u) (sym (flat_intents (λ x. units_of x.fresh) (uncommitted s))) c)

  pub pending_on_data : AllByRecursion (λ x. AllByRecursion (λ f. IsDataUnit s.log.sup f.unit) x.fresh) s.pending
  pending_on_data = each_on_data s.log.sup s.pending
      (λ u c. taken_data u (behind_batch (option_map_or (λ (b : Batch). b.contexts) s.batch []) s.pending u c))

  pub next_on_data : (n : Unsent) → next_unsent s.pending ≡ Some n → AllByRecursion (λ f. IsDataUnit s.log.sup f.unit) (unsent_units n)
  next_on_data n is =
      let at : StandsIn (λ x. IsRunOf x n) s.pending = next_stands s.pending n is in
      run_has at.item n at.holds (λ f. IsDataUnit s.log.sup f.unit)
      (all_at (λ x. AllByRecursion (λ f. IsDataUnit s.log.sup f.unit) x.fresh) at.front at.item at.back s.pending at.is pending_on_data)

  -- ---- the units that the batch releases

  module _ (b : Batch) (is_open : s.batch ≡ Some b) where
    abbrev front : List Intent
    front = intents b.contexts

    abbrev back : List Intent
    back = intents s.pending

    both : xs ≡ front ++ back
    both = ap (λ batch. intents (option_map_or (λ (c : Batch). c.contexts) batch [] ++ s.pending)) is_open ∙ intents_both b.contexts s.pending

    planned : EachIsPlanned s.log.sup s.log.rows (front ++ back)
    planned = subst (EachIsPlanned s.log.sup s.log.rows) both rows.planned

    apart : AreTakenApart s.log.rows (front ++ back)
    apart = subst (AreTakenApart s.log.rows) both rows.apart

    counted : SpaceIsCounted s.log.sup s.log.rows (front ++ back) s.space
    counted = subst (λ is. SpaceIsCounted s.log.sup s.log.rows is s.space) both rows.counted

    released_are : released_by front ≡ batch_released b
    released_are = flat_intents (λ x. x.released) b.contexts

    pub back_data : AreData s.log.sup (batch_released b)
    back_data u c = released_on_data s.log.sup s.log.rows front back rows.good planned apart u (subst (λ us. Contains us u) (sym released_are) c)

    -- those that come back one after the other aren't free until it is their turn
    pub back_in_turn : (given_back rest : List ℕ) (u : ℕ) → batch_released b ≡ given_back ++ (u ∷ rest) → is_free (given s.space given_back) u ≡ false
    back_in_turn given_back rest u are = busy_is_not_free (given s.space given_back) u
        (not_idle_until s.log.sup s.log.rows front back rows.good planned apart s.space given_back rest u
        (λ v on. data_within s.log.sup s.space v kept.always.space on) counted (released_are ∙ are))
