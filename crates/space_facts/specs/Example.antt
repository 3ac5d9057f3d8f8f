-- An example: a transaction takes unit 18, and a later one on the same collection takes 19 and releases 18.
use Rattle.std.specs.Prelude.{ℕ, List, [], ◌∷◌}
use Rattle.std.specs.FinMap as finite
use Rattle.meta_rows.specs.Prelude.{Rows}
use Rattle.meta_rows.specs.declared.row_op.RowOp.TheVariants.{Flip}
use Rattle.row_format.specs.Prelude.{bitmap_key}
use Rattle.store_steps.specs.Prelude.{Intent}

-- masks of the bit of 18, and of those of 18 and 19
abbrev pub eighteen : List ℕ
eighteen = 0 ∷ 0 ∷ 4 ∷ 0 ∷ 0 ∷ 0 ∷ 0 ∷ 0 ∷ 0 ∷ 0 ∷ 0 ∷ 0 ∷ 0 ∷ 0 ∷ 0 ∷ 0 ∷ []

abbrev pub both : List ℕ
both = 0 ∷ 0 ∷ 12 ∷ 0 ∷ 0 ∷ 0 ∷ 0 ∷ 0 ∷ 0 ∷ 0 ∷ 0 ∷ 0 ∷ 0 ∷ 0 ∷ 0 ∷ 0 ∷ []

abbrev pub earlier : Intent
earlier = record {
  place = 0;
  coll = [];
  ops = Flip (bitmap_key 0) eighteen ∷ [];
  need = 1;
  fresh = record { unit = 18; bytes = [] } ∷ [];
  released = [];
}

abbrev pub later : Intent
later = record {
  place = 1;
  coll = [];
  ops = Flip (bitmap_key 0) both ∷ [];
  need = 1;
  fresh = record { unit = 19; bytes = [] } ∷ [];
  released = 18 ∷ [];
}

abbrev pub two : List Intent
two = earlier ∷ later ∷ []

-- no rows are committed
abbrev pub no_rows : Rows
no_rows = finite.empty
