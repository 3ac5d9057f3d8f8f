-- What is read of the log after a crash.
use Rattle.std.specs.Prelude.{◌≡◌, ◌⊎◌, ℕ, List, Option, Some}
use Rattle.meta_rows.specs.declared.row_op.RowOp.{RowOp}
use Rattle.meta_rows.specs.Prelude.{Rows, rows_after}
use Rattle.meta_log.specs.declared.slot.Super.{Super}
use Rattle.meta_log.specs.Prelude.{AreRowsOf, IsActiveSlot}

-- a record is begun and wholly given to the device, and the image has it: its rows are those after these operations
pub record HasBegunRecord (image : List ℕ) (s : Super) (rows : Rows) (begun : Option (List RowOp)) (given_from : ℕ) : Type 0 where
  pub ops : List RowOp
  pub is_begun : begun ≡ Some ops
  pub all_given : given_from ≡ 0
  pub read : AreRowsOf image s (rows_after rows ops)

-- The image has the super, and the rows as they were or with the record that was begun.
pub record LeavesRows (image : List ℕ) (s : Super) (rows : Rows) (begun : Option (List RowOp)) (given_from : ℕ) : Type 0 where
  pub active : IsActiveSlot image s
  pub read : AreRowsOf image s rows ⊎ HasBegunRecord image s rows begun given_from
