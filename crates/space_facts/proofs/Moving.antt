-- Lists with the same order within each name, and a batch that is committed.
use Rattle.std.proofs.Common.{◌≡◌, inl, inr, ℕ, ◌<◌, ◌^◌, true, List, [], ◌∷◌, ◌++◌, Contains, refl, sym, subst, ◌∙◌, append_assoc, arith}
use Rattle.std.specs.Prelude.{fold}
use Rattle.std.proofs.lemmas.List.Elements.{Contains-append_left, Contains-append_right}
use Rattle.meta_rows.specs.Prelude.{Rows, rows_after}
use Rattle.meta_log.specs.declared.slot.Super.{Super}
use Rattle.meta_log.specs.Prelude.{width_of, IsSuper}
use Rattle.bitmap_freelist.specs.Bitmap.{AreBitmapRows}
use Rattle.bitmap_freelist.proofs.GoodBitmaps.{bitmap_rows}
use Rattle.store_image.specs.Prelude.{IsMarked}
use Rattle.unit_fields.specs.declared.width.Width.{Width}
use Rattle.std.specs.List.{AllByRecursion}
use Rattle.plan_rows.specs.Prelude.{ChangesBlob, IsGood}
use Rattle.plan_rows.proofs.Homes.{have_homes}
use Rattle.selections.specs.Fair.{under, IsFair, IsComplete}
use Rattle.selections.proofs.Cuts.{not_empty}
use Rattle.selections.proofs.Order.{moved, fold_alike}
use Rattle.selections.proofs.Selecting.{fair_front, fair_all, fair_among, fair_behind, complete_is_fair, fair_none, all_selected}
use Rattle.store_steps.specs.Prelude.{Intent, is_in, rows_by, taken_by, IsPlannedOver, EachIsPlanned, AreTakenApart, HaveHomes, AreBlobsBelow}
use Rattle.space_facts.specs.Owning.{OwnTheirUnits}
use Rattle.space_facts.proofs.Lists.{all_rest, all_listed, listed_all, times_some}
use Rattle.space_facts.proofs.Rows.{each_named, rows_append, taken_append, IsOf, intents_change_places, table_stays}
use Rattle.space_facts.proofs.Selected.{times_joined, selected_times, selected_taken, small_of, at_home, selected_on_data, selection_good, selection_exact, selection_owns}

-- ---- nothing is under way

pub each_none : (sup : Super) (rows : Rows) → EachIsPlanned sup rows []
each_none sup rows some x fair = absurd (not_empty some x (fair_none is_in each_named (some ++ x ∷ []) fair))

pub homes_none : (sup : Super) (rows : Rows) → IsGood sup rows → HaveHomes (width_of sup) rows []
homes_none sup rows good = let have = have_homes sup rows good.good in record { home = have.0; named = have.1; changed = tt }

pub apart_none : (rows : Rows) → AreTakenApart rows []
apart_none rows = record { unmarked = tt; apart = λ unit. omega arith }

-- ---- the same order within each name

pub each_alike : (sup : Super) (rows : Rows) (xs ys : List Intent) → IsComplete is_in xs ys → EachIsPlanned sup rows xs → EachIsPlanned sup rows ys
each_alike sup rows xs ys same each some x fair = each some x (fair_among is_in ys xs (some ++ x ∷ []) (λ n. sym (same n)) fair)

as_fold : (rows : Rows) (xs : List Intent) → rows_by rows xs ≡ fold (λ r x. rows_after r x.ops) rows xs
as_fold rows [] = refl
as_fold rows (x ∷ xs) = as_fold (rows_after rows x.ops) xs

changed_alike : (w : Width) (rows : Rows) (xs ys : List Intent) → IsComplete is_in xs ys → (homes : HaveHomes w rows xs)
    → AllByRecursion (IsOf homes.home) ys
changed_alike w rows xs ys same homes =
    all_selected is_in each_named (IsOf homes.home) xs ys (complete_is_fair is_in xs ys same) homes.changed

pub homes_alike : (w : Width) (rows : Rows) (xs ys : List Intent) → IsComplete is_in xs ys → HaveHomes w rows xs → HaveHomes w rows ys
homes_alike w rows xs ys same homes = record {
  home = homes.home;
  named = homes.named;
  changed = changed_alike w rows xs ys same homes;
}

pub below_alike : (next : ℕ) (rows : Rows) (xs ys : List Intent) → IsComplete is_in xs ys → AreBlobsBelow next rows xs → AreBlobsBelow next rows ys
below_alike next rows xs ys same below = record {
  held = below.held;
  changed = all_selected is_in each_named (λ x. (sbid : ℕ) → ChangesBlob x.ops sbid → sbid < next) xs ys (complete_is_fair is_in xs ys same) below.changed;
}

pub rows_alike : (sup : Super) (rows : Rows) (xs ys : List Intent) → IsComplete is_in xs ys → IsGood sup rows → HaveHomes (width_of sup) rows xs
    → rows_by rows xs ≡ rows_by rows ys
rows_alike sup rows xs ys same good homes =
    as_fold rows xs
    ∙ fold_alike is_in (λ r x. rows_after r x.ops) AreBitmapRows (IsOf homes.home)
    (λ r x of table. table_stays homes.home r x of table)
    (λ r x y of_x of_y table share. sym (intents_change_places homes.home r x y of_x of_y table share)) each_named rows xs ys
    homes.changed (changed_alike (width_of sup) rows xs ys same homes) (bitmap_rows sup rows good.good) (λ n. sym (same n))
    ∙ sym (as_fold rows ys)

pub apart_alike : (rows : Rows) (xs ys : List Intent) → IsComplete is_in xs ys → AreTakenApart rows xs → AreTakenApart rows ys
apart_alike rows xs ys same apart = record {
  unmarked = all_listed (λ u. ¬ IsMarked rows u) (taken_by ys)
      (λ u c. listed_all (λ v. ¬ IsMarked rows v) (taken_by xs) u apart.unmarked (selected_taken xs ys fair u c));
  apart = λ unit. omega (arith, selected_times unit xs ys fair, apart.apart unit);
}
  where
    fair : IsFair is_in xs ys
    fair = complete_is_fair is_in xs ys same

-- one that is the first of each of its names may be taken to the front
pub first_taken : (front back : List Intent) (x : Intent) → ((n : List ℕ) → is_in n x ≡ true → under is_in n front ≡ [])
    → IsComplete is_in (front ++ x ∷ back) (x ∷ (front ++ back))
first_taken front back x none n = sym (moved is_in x front back none n)

-- ---- a commit

pub each_committed : (sup : Super) (rows : Rows) (batch pending : List Intent) → EachIsPlanned sup rows (batch ++ pending)
    → EachIsPlanned sup (rows_by rows batch) pending
each_committed sup rows batch pending each some x fair =
    subst (λ r. IsPlannedOver sup r x) (rows_append rows batch some)
    (each (batch ++ some) x (subst (IsFair is_in (batch ++ pending)) (sym (append_assoc batch some (x ∷ [])))
    (fair_behind is_in batch pending (some ++ x ∷ []) fair)))

module _ (sup : Super) (rows : Rows) (batch pending : List Intent) (good : IsGood sup rows) (each : EachIsPlanned sup rows (batch ++ pending)) where
  pub batch_fair : IsFair is_in (batch ++ pending) batch
  batch_fair = fair_front is_in (batch ++ pending) batch pending (fair_all is_in (batch ++ pending))

  pub good_committed : IsGood sup (rows_by rows batch)
  good_committed = selection_good sup rows (batch ++ pending) good each batch batch_fair

  pub homes_committed : HaveHomes (width_of sup) rows (batch ++ pending) → HaveHomes (width_of sup) (rows_by rows batch) pending
  homes_committed homes = record {
    home = homes.home;
    named = at_home sup rows (batch ++ pending) good each homes batch batch_fair;
    changed = all_rest (IsOf homes.home) batch pending homes.changed;
  }

  module _ (apart : AreTakenApart rows (batch ++ pending)) where
    pub in_batch : (unit : ℕ) → Contains (taken_by batch) unit → Contains (taken_by (batch ++ pending)) unit
    in_batch unit c =
        subst (λ l. Contains l unit) (sym (taken_append batch pending)) (Contains-append_left (taken_by batch) (taken_by pending) unit c)

    pub in_pending : (unit : ℕ) → Contains (taken_by pending) unit → Contains (taken_by (batch ++ pending)) unit
    in_pending unit c =
        subst (λ l. Contains l unit) (sym (taken_append batch pending)) (Contains-append_right (taken_by batch) (taken_by pending) unit c)

    pub unmarked_first : (unit : ℕ) → Contains (taken_by (batch ++ pending)) unit → ¬ IsMarked rows unit
    unmarked_first unit c = listed_all (λ u. ¬ IsMarked rows u) (taken_by (batch ++ pending)) unit apart.unmarked c

    pub not_both : (unit : ℕ) → Contains (taken_by batch) unit → Contains (taken_by pending) unit → ⊥
    not_both unit c d = omega (
      arith,
      times_some unit (taken_by batch) c,
      times_some unit (taken_by pending) d,
      times_joined unit batch pending,
      apart.apart unit,
    )

    pub batch_owns : OwnTheirUnits (width_of sup) rows (rows_by rows batch) batch
    batch_owns = selection_owns sup rows (batch ++ pending) good each apart batch batch_fair

    -- what those that wait took isn't marked then
    pub pending_unmarked : IsSuper sup → (unit : ℕ) → Contains (taken_by pending) unit → ¬ IsMarked (rows_by rows batch) unit
    pending_unmarked limits unit c marked =
        let small : unit < 2 ^ 32 =
        small_of sup unit limits
        (selected_on_data sup rows (batch ++ pending) good each (batch ++ pending) (fair_all is_in (batch ++ pending)) unit (in_pending unit c)) in
        elim ((selection_exact sup rows (batch ++ pending) good each batch batch_fair).marked unit small marked) [
          | inl owned ↦ elim (batch_owns.new unit owned) [
            | inl was ↦ unmarked_first unit (in_pending unit c) (good.exact.owned_marked unit was)
            | inr took ↦ not_both unit took c
          ]
          | inr leaked ↦ unmarked_first unit (in_pending unit c) leaked.0.marked
        ]

    pub apart_committed : IsSuper sup → AreTakenApart (rows_by rows batch) pending
    apart_committed limits = record {
      unmarked = all_listed (λ u. ¬ IsMarked (rows_by rows batch) u) (taken_by pending) (pending_unmarked limits);
      apart = λ unit. omega (arith, times_joined unit batch pending, apart.apart unit);
    }
