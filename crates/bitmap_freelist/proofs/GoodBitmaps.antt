-- Rows of the table, where no row is bad.
use Rattle.std.proofs.Common.{◌≡◌, inl, inr, ⊎_elim, ℕ, ◌/◌, ◌^◌, ◌<◌, List, [], ◌∷◌, Option, Some, None, refl}
use Rattle.std.proofs.Common.{is_some, sym, ap, subst, ◌∙◌, arith}
use Rattle.std.specs.Prelude.{unwrap_or}
use Rattle.std.specs.FinMap as map
use Rattle.std.specs.Int.{w32, to_be_bytes}
use Rattle.meta_rows.specs.Prelude.{Rows, rows_after}
use Rattle.meta_rows.specs.declared.row_op.RowOp.{RowOp}
use Rattle.meta_log.specs.declared.slot.Super.{Super}
use Rattle.meta_log.specs.Prelude.{width_of}
use Rattle.row_format.specs.Prelude.{bit_in, object_key, bitmap_key, coll_key, onode_key, shared_key, Row, onode, shard, blob, bitmap, row_key, row_value, FitsRow, FitsBitmap}
use Rattle.row_format.proofs.Prelude.{begins_b}
use Rattle.store_image.specs.Prelude.{HasKey, HasRow, IsDataUnit, IsMarked, AreOfData, IsInPlace, IsGoodRow, NoBadRow}
use Rattle.store_image.proofs.Prelude.{Carries, good_carried}
use Rattle.bitmap_freelist.specs.Bitmap.{Units, Has, AreFlips, AreBitmapRows, NoneIsZero, IsOtherKey, AreAlikeButBits}
use Rattle.bitmap_freelist.proofs.Bits.{bit_in-zeros}
use Rattle.bitmap_freelist.proofs.Turning.{same_row, Turns, at_any, turn_their_units, stay_in_table, stay_some}
use Rattle.bitmap_freelist.proofs.Alike.{flips_alike, alike_back, alike_has_row, object_key_is_other, coll_key_is_other, blob_keys}

-- ---- rows of the table

-- the key and the value are a row of the table whose bits are of data units
pub record IsOfTable (s : Super) (key value : List ℕ) : Type 0 where
  pub r : ℕ
  pub key_is : key ≡ bitmap_key r
  pub fits : FitsBitmap r value
  pub of_data : AreOfData s r value

-- where no row is bad
pub of_table : (s : Super) (rows : Rows) (rest value : List ℕ) → NoBadRow s rows → map.get rows (0x62 ∷ rest) ≡ Some value
    → IsOfTable s (0x62 ∷ rest) value
of_table s rows rest value good there =
    let found = good (0x62 ∷ rest) value there in
    let is = begins_b (width_of s) rest found.row found.fits found.key_is in
    of is.0 is.1 (subst IsRow is.2 (found.fits, found.key_is, found.value_is, found.in_place))
  where
    IsRow : Row → Type 0
    IsRow row = FitsRow (width_of s) row × (0x62 ∷ rest ≡ row_key row) × (value ≡ row_value (width_of s) row) × IsInPlace s rows row

    of : (r : ℕ) (bits : List ℕ) → IsRow (bitmap r bits) → IsOfTable s (0x62 ∷ rest) value
    of r bits is =
        record { r = r; key_is = is.1; fits = subst (FitsBitmap r) (sym is.2) is.0; of_data = subst (AreOfData s r) (sym is.2) is.3 }

-- then all rows under the keys of the table are of it
pub bitmap_rows : (s : Super) (rows : Rows) → NoBadRow s rows → AreBitmapRows rows
bitmap_rows s rows good rest value there =
    let of = of_table s rows rest value good there in
    record { row = of.r; below = of.fits.below; key_is = of.key_is; size = of.fits.size }

-- and none has zeros alone
pub none_zero : (s : Super) (rows : Rows) → NoBadRow s rows → NoneIsZero rows
none_zero s rows good r value there = (of_table s rows (to_be_bytes w32 r) value good there).fits.some

-- a marked unit is one for data
pub marked_is_data : (s : Super) (rows : Rows) (unit : ℕ) → NoBadRow s rows → unit < 2 ^ 32 → IsMarked rows unit → IsDataUnit s unit
marked_is_data s rows unit good below marked = by (map.get rows (bitmap_key (unit / 128))) refl
  where
    by : (held : Option (List ℕ)) → map.get rows (bitmap_key (unit / 128)) ≡ held → IsDataUnit s unit
    by None is =
        let zero_there = ap (λ o. bit_in (unwrap_or o []) unit) is ∙ bit_in-zeros [] unit refl in
        absurd (omega (arith, sym marked ∙ zero_there))
    by (Some value) is =
        let of = of_table s rows (to_be_bytes w32 (unit / 128)) value good is in
        let row_is = same_row (unit / 128) of.r (omega (arith, below)) of.fits.below of.key_is in
        of.of_data unit row_is (sym (ap (λ o. bit_in (unwrap_or o []) unit) is) ∙ marked)

-- ---- rows that stay good

module _ (s : Super) (rows other : Rows) (alike : AreAlikeButBits rows other) where
  -- a key that isn't of the table
  has_key : (key : List ℕ) → IsOtherKey key → HasKey rows key → HasKey other key
  has_key key is_other has = ap is_some (alike key is_other) ∙ has

  -- the rows of an object
  keys : (c o rest : List ℕ) → IsOtherKey (object_key 0x4f c o rest)
  keys c o rest = object_key_is_other 0x4f c o rest (λ e. absurd (omega (arith, e)))

  -- one that was there
  was : (row : Row) → IsOtherKey (row_key row) → HasRow (width_of s) other row → HasRow (width_of s) rows row
  was row is_other has = alike_has_row (width_of s) other rows row (alike_back rows other alike) is_other has

  -- what a row needs of the others isn't bits
  carries : Carries s s rows other
  carries = record {
    coll = λ c. has_key (coll_key c) (coll_key_is_other c);
    onode = λ c o. has_key (onode_key c o) (keys c o _);
    was_size = λ c o size. was (onode c o size) (keys c o _);
    was_shard = λ c o page es. was (shard c o page es) (keys c o _);
    blob_key = λ sbid. has_key (shared_key sbid) (blob_keys sbid);
    was_blob = λ sbid first slots. was (blob sbid first slots) (blob_keys sbid);
    are_data = λ first count is. is;
    of_data = λ unit is. is;
  }

  -- so a good row stays good
  pub alike_good : (key value : List ℕ) → IsGoodRow s rows key value → IsGoodRow s other key value
  alike_good = good_carried s s rows other carries

module _ (s : Super) (rows : Rows) (units : Units) (ops : List RowOp) (are : AreFlips units ops)
    (data_units : (unit : ℕ) → Has units unit → IsDataUnit s unit) (good : NoBadRow s rows) where
  -- a marked unit was marked, or it is one of those that were turned
  marked_after : (unit : ℕ) → unit < 2 ^ 32 → IsMarked (rows_after rows ops) unit → IsDataUnit s unit
  marked_after unit below marked =
      ⊎_elim (λ held. marked_is_data s rows unit good below held.0) (λ taken. data_units unit taken.1)
      ((turn_their_units rows units ops are unit below).0 marked)

  -- so the bits of a row that was turned are of data units
  turned_of_data : (r : ℕ) (value : List ℕ) → r < 33554432 → map.get (rows_after rows ops) (bitmap_key r) ≡ Some value → AreOfData s r value
  turned_of_data r value below there unit own one =
      let bit = ap (λ q. bit_in (unwrap_or (map.get (rows_after rows ops) (bitmap_key q)) []) unit) own in
      let held = ap (λ o. bit_in (unwrap_or o []) unit) there in
      marked_after unit (omega (arith, own, below)) (bit ∙ held ∙ one)

  -- a row of the table
  turned_row : (key value : List ℕ) → Turns units ops key → map.get (rows_after rows ops) key ≡ Some value
      → IsGoodRow s (rows_after rows ops) key value
  turned_row key value t there =
      let own : map.get (rows_after rows ops) (bitmap_key t.r) ≡ Some value
      = ap (map.get (rows_after rows ops)) (sym t.key_is) ∙ there in
      let table = stay_in_table rows units ops are (bitmap_rows s rows good) (to_be_bytes w32 t.r) value own in
      let some = stay_some rows units ops are (none_zero s rows good) t.r value own in
      record {
        row = bitmap t.r value;
        fits = record { below = t.below; size = table.size; some = some };
        key_is = t.key_is;
        value_is = refl;
        in_place = turned_of_data t.r value t.below own;
      }

  stays_good : NoBadRow s (rows_after rows ops)
  stays_good key value there = elim (at_any units ops key are) [
    | inl t ↦ turned_row key value t there
    | inr l ↦ alike_good s rows (rows_after rows ops) (flips_alike rows units ops are) key value (good key value (sym (l.after rows) ∙ there))
  ]

-- no row is bad once bits of data units are turned
pub turned_good : (s : Super) (rows : Rows) (units : Units) (ops : List RowOp) → AreFlips units ops
    → ((unit : ℕ) → Has units unit → IsDataUnit s unit) → NoBadRow s rows → NoBadRow s (rows_after rows ops)
turned_good s rows units ops are data_units good = stays_good s rows units ops are data_units good
