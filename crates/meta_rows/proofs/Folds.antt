-- Rows after records, one after the other.
use Rattle.std.proofs.Common.{◌≡◌, List, [], ◌∷◌, ◌++◌, refl}
use Rattle.meta_rows.specs.declared.row_op.RowOp.{RowOp}
use Rattle.meta_rows.specs.Prelude.{Rows, row_after, rows_after, rows_of_records}

pub rows_after-append : (rows : Rows) (a b : List RowOp) → rows_after rows (a ++ b) ≡ rows_after (rows_after rows a) b
rows_after-append rows [] b = refl
rows_after-append rows (op ∷ a) b = rows_after-append (row_after rows op) a b

-- one more record
pub rows_of_records-push : (rows : Rows) (records : List (List RowOp)) (ops : List RowOp) → rows_of_records rows (records ++ ops ∷ []) ≡ rows_after (rows_of_records rows records) ops
rows_of_records-push rows [] ops = refl
rows_of_records-push rows (first ∷ records) ops = rows_of_records-push (rows_after rows first) records ops
