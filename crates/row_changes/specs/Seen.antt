-- Changes of rows, and what is seen through them.
use Rattle.std.specs.Prelude.{◌≡◌, ℕ, true, false, List, Option, None, unwrap_or}
use Rattle.std.specs.List.{AllByRecursion}
use Rattle.std.specs.FinMap as finite
use Rattle.byte_maps.specs.ByteMap.{ByteMap, in_range}
use Rattle.meta_rows.specs.Prelude.{Rows, rows_after, key_of}
use Rattle.meta_rows.specs.declared.row_op.RowOp.{RowOp}
use Rattle.store_image.specs.Prelude.{HasKey}
use Rattle.plan_rows.specs.Prelude.{Changes, KeysAscend}

-- for each key that is changed the value that its row gets, or none where the row goes
abbrev pub ChangeMap : Type 0
ChangeMap = ByteMap (Option (List ℕ))

-- what is seen under a key: what its change makes of the row, or the row itself where there is no change
abbrev pub value_seen : Rows → ChangeMap → List ℕ → Option (List ℕ)
value_seen rows changes key = unwrap_or (finite.get changes key) (finite.get rows key)

-- the key is changed
abbrev pub IsChanged : ChangeMap → List ℕ → Type 0
IsChanged changes key = finite.contains_key changes key ≡ true

-- All rows of a range of keys go: none is seen, and only keys that have rows are changed in it. What isn't in the range is changed as before.
pub record DropsRange (rows : Rows) (first end : List ℕ) (old new : ChangeMap) : Type 0 where
  pub inside : (key : List ℕ) → in_range first end key ≡ true → value_seen rows new key ≡ None
  pub known : (key : List ℕ) → in_range first end key ≡ true → IsChanged new key → HasKey rows key
  pub outside : (key : List ℕ) → in_range first end key ≡ false → finite.get new key ≡ finite.get old key

-- The operations make of the rows what is seen, in the order of their keys. Each is of a key that is changed, and none could be left out.
pub record IsDifferenceBy (rows : Rows) (changed : ChangeMap) (ops : List RowOp) : Type 0 where
  pub in_order : KeysAscend ops
  pub changes : AllByRecursion (Changes rows) ops
  pub makes : (key : List ℕ) → finite.get (rows_after rows ops) key ≡ value_seen rows changed key
  pub of_changed : AllByRecursion (λ op. IsChanged changed (key_of op)) ops
