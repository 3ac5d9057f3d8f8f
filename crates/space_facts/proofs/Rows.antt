-- Rows with the operations of intents: the rows of a collection are made by its own ones, and an intent may move behind those of others.
use Rattle.std.proofs.Common.{◌≡◌, inl, ℕ, Bool, true, false, cond, List, [], ◌∷◌, ◌++◌, refl, sym, ap, subst, ◌∙◌}
use Rattle.std.specs.List.{AllByRecursion}
use Rattle.std.specs.FinMap as finite
use Rattle.std.proofs.lemmas.List.Concat.{flat_map-append}
use Rattle.unit_fields.specs.Prelude.{IsCollName}
use Rattle.unit_fields.specs.declared.width.Width.{Width}
use Rattle.meta_rows.specs.Prelude.{Rows, rows_after}
use Rattle.meta_rows.proofs.Folds.{rows_after-append}
use Rattle.object_model.specs.Prelude.{is_named}
use Rattle.object_model.proofs.Names.{same_name, is_same_itself}
use Rattle.row_format.specs.Prelude.{shared_key}
use Rattle.bitmap_freelist.specs.Bitmap.{AreBitmapRows}
use Rattle.plan_rows.specs.Prelude.{AreAtHome, AgreeOn, AreOf, HaveNoneInCommon, fresh_units}
use Rattle.plan_rows.proofs.Alike.{after_alike}
use Rattle.plan_rows.proofs.Apart.{named_coll, IsOwn, blob_own, leaves, change_places, table_kept}
use Rattle.selections.specs.Fair.{under, EachHasName, ShareNoName}
use Rattle.store_steps.specs.Prelude.{Intent, names_in, is_in, plan_of, rows_by, ops_by, taken_by, released_by}

-- ---- names

pub is_own : (x : Intent) → is_in x.coll x ≡ true
is_own x = is_same_itself x.coll

pub each_named : EachHasName is_in
each_named x = (x.coll, is_own x)

pub differ : (b : Bool) → b ≡ true → b ≡ false → ⊥
differ true t f = cc
differ false t f = cc

-- intents that share no name are on collections of which none is in both
pub none_shared : (x y : Intent) → ShareNoName is_in x y → HaveNoneInCommon (names_in x) (names_in y)
none_shared x y share c of_x of_y = differ (is_in c y) of_y (share c of_x)

-- ---- joined lists

pub rows_append : (rows : Rows) (xs ys : List Intent) → rows_by rows (xs ++ ys) ≡ rows_by (rows_by rows xs) ys
rows_append rows [] ys = refl
rows_append rows (x ∷ xs) ys = rows_append (rows_after rows x.ops) xs ys

-- the operations of all as one list
pub rows_by_ops : (rows : Rows) (xs : List Intent) → rows_after rows (ops_by xs) ≡ rows_by rows xs
rows_by_ops rows [] = refl
rows_by_ops rows (x ∷ xs) = rows_after-append rows x.ops (ops_by xs) ∙ rows_by_ops (rows_after rows x.ops) xs

pub taken_append : (xs ys : List Intent) → taken_by (xs ++ ys) ≡ taken_by xs ++ taken_by ys
taken_append xs ys = flat_map-append (λ x. fresh_units (plan_of x)) xs ys

pub released_append : (xs ys : List Intent) → released_by (xs ++ ys) ≡ released_by xs ++ released_by ys
released_append xs ys = flat_map-append (λ x. x.released) xs ys

-- ---- the operations of an intent are of its collections, and of blobs at home there

abbrev pub IsOf : (ℕ → List ℕ) → Intent → Type 0
IsOf home x = AreOf home (names_in x) (fresh_units (plan_of x)) x.released x.ops

-- a row after intents depends on what it was alone
by_alike : (xs : List Intent) (rows other : Rows) (key : List ℕ) → finite.get rows key ≡ finite.get other key
    → finite.get (rows_by rows xs) key ≡ finite.get (rows_by other xs) key
by_alike [] rows other key e = e
by_alike (x ∷ xs) rows other key e = by_alike xs (rows_after rows x.ops) (rows_after other x.ops) key (after_alike x.ops rows other key e)

-- an intent that isn't in the collection leaves its rows and those of the blobs at home there
other_leaves : (home : ℕ → List ℕ) (c key : List ℕ) (rows : Rows) (x : Intent) → IsCollName c → IsOwn home (c ∷ []) key → IsOf home x
    → is_in c x ≡ false → finite.get (rows_after rows x.ops) key ≡ finite.get rows key
other_leaves home c key rows x named in_c of other =
    leaves home (names_in x) (c ∷ []) (named, tt) apart (fresh_units (plan_of x)) x.released rows x.ops key of in_c
  where
    apart : HaveNoneInCommon (names_in x) (c ∷ [])
    apart d in_x is = differ (is_in c x) (subst (λ n. is_in n x ≡ true) (same_name d c is) in_x) other

-- they are made by the intents in it
pub part_by : (home : ℕ → List ℕ) (c key : List ℕ) → IsCollName c → IsOwn home (c ∷ []) key → (rows : Rows) (xs : List Intent)
    → AllByRecursion (IsOf home) xs → finite.get (rows_by rows xs) key ≡ finite.get (rows_by rows (under is_in c xs)) key
part_by home c key named in_c rows [] all = refl
part_by home c key named in_c rows (x ∷ xs) all = by (is_in c x) refl (part_by home c key named in_c (rows_after rows x.ops) xs all.1)
  where
    by : (b : Bool) → is_in c x ≡ b
        → finite.get (rows_by (rows_after rows x.ops) xs) key ≡ finite.get (rows_by (rows_after rows x.ops) (under is_in c xs)) key
        → finite.get (rows_by (rows_after rows x.ops) xs) key ≡ finite.get (rows_by rows (cond b (x ∷ under is_in c xs) (under is_in c xs))) key
    by true t e = e
    by false f e = e ∙ by_alike (under is_in c xs) (rows_after rows x.ops) rows key (other_leaves home c key rows x named in_c all.0 f)

-- so two lists that have the same intents in each of some collections make rows that agree on these
pub agree_by : (w : Width) (home : ℕ → List ℕ) (names : List (List ℕ)) (rows : Rows) (xs ys : List Intent) → AllByRecursion IsCollName names
    → AllByRecursion (IsOf home) xs → AllByRecursion (IsOf home) ys → AreAtHome w home (rows_by rows xs)
    → ((n : List ℕ) → is_named n names ≡ true → under is_in n xs ≡ under is_in n ys) → AgreeOn w names (rows_by rows xs) (rows_by rows ys)
agree_by w home names rows xs ys named all all_ys at_home alike = record {
  own = λ key is. at_key is.coll key is.among (inl (record { coll = is.coll; among = is_same_itself is.coll; of = is.of }));
  blobs = λ c sbid among by. at_key c (shared_key sbid) among
      (blob_own w home (c ∷ []) (rows_by rows xs) at_home c sbid (is_same_itself c) by);
}
  where
    at_key : (c key : List ℕ) → is_named c names ≡ true → IsOwn home (c ∷ []) key
        → finite.get (rows_by rows xs) key ≡ finite.get (rows_by rows ys) key
    at_key c key among own =
        let c_named : IsCollName c = named_coll names c named among in
        part_by home c key c_named own rows xs all
        ∙ ap (λ l. finite.get (rows_by rows l) key) (alike c among)
        ∙ sym (part_by home c key c_named own rows ys all_ys)

-- ---- order

pub intents_change_places : (home : ℕ → List ℕ) (rows : Rows) (x y : Intent) → IsOf home x → IsOf home y → AreBitmapRows rows
    → ShareNoName is_in x y → rows_after (rows_after rows x.ops) y.ops ≡ rows_after (rows_after rows y.ops) x.ops
intents_change_places home rows x y of_x of_y table share =
    change_places home (names_in x) (names_in y) (fresh_units (plan_of x)) x.released (fresh_units (plan_of y)) y.released rows x.ops y.ops of_x of_y
    (none_shared x y share) table

pub table_stays : (home : ℕ → List ℕ) (rows : Rows) (x : Intent) → IsOf home x → AreBitmapRows rows → AreBitmapRows (rows_after rows x.ops)
table_stays home rows x of table = table_kept home (names_in x) (fresh_units (plan_of x)) x.released rows x.ops of table

-- an intent moves behind others with which it shares no name
pub move_last : (home : ℕ → List ℕ) (rows : Rows) (x : Intent) (back : List Intent) → IsOf home x → AllByRecursion (IsOf home) back
    → AllByRecursion (ShareNoName is_in x) back → AreBitmapRows rows → rows_by (rows_after rows x.ops) back ≡ rows_after (rows_by rows back) x.ops
move_last home rows x [] of all share table = refl
move_last home rows x (y ∷ back) of all share table =
    ap (λ r. rows_by r back) (intents_change_places home rows x y of all.0 table share.0)
    ∙ move_last home (rows_after rows y.ops) x back of all.1 share.1 (table_stays home rows y all.0 table)

-- those that aren't under any of its names share none with it
pub share_none : (x : Intent) (ys : List Intent) → ((n : List ℕ) → is_in n x ≡ true → under is_in n ys ≡ []) → AllByRecursion (ShareNoName is_in x) ys
share_none x [] none = tt
share_none x (y ∷ ys) none = (λ n t. (first n t).0, share_none x ys (λ n t. (first n t).1))
  where
    by : (b : Bool) (l : List Intent) → cond b (y ∷ l) l ≡ [] → (b ≡ false) × (l ≡ [])
    by true l e = absurd cc
    by false l e = (refl, e)

    first : (n : List ℕ) → is_in n x ≡ true → (is_in n y ≡ false) × (under is_in n ys ≡ [])
    first n t = by (is_in n y) (under is_in n ys) (none n t)
