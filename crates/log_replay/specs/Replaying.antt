-- The records of a half of the log, and what they make.
use Rattle.std.specs.Prelude.{◌≡◌, ℕ, ◌+◌, ◌*◌, ◌≤◌, List, length}
use Rattle.std.specs.FinMap as map
use Rattle.meta_rows.specs.declared.row_op.RowOp.{RowOp}
use Rattle.meta_rows.specs.Prelude.{Rows, rows_of_records}
use Rattle.meta_log.specs.Prelude.{AreRecords, units_of_records}

-- The half begins with these records, of consecutive numbers from `first` on, and with no more: they make the rows, take so many units, and
-- the next one has this number.
pub record IsReplay (half : List ℕ) (first : ℕ) (rows : Rows) (tail number : ℕ) : Type 0 where
  pub records : List (List RowOp)
  pub stand : AreRecords records first half
  pub made : rows ≡ rows_of_records map.empty records
  pub tail_is : tail ≡ units_of_records first records
  pub number_is : number ≡ first + length records
  pub within : 4096 * tail ≤ length half
