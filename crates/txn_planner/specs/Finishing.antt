-- The operations on rows of a plan.
use Rattle.std.specs.Prelude.{◌≡◌, ℕ, List, ◌++◌}
use Rattle.meta_rows.specs.Prelude.{Rows}
use Rattle.meta_rows.specs.declared.row_op.RowOp.{RowOp}
use Rattle.row_changes.specs.Prelude.{ChangeMap, IsDifferenceBy}
use Rattle.plan_drafts.specs.Prelude.{TurnsBits}

-- The difference that the changes make to the rows, and behind it those that turn the bits of the units that are taken and of those that are
-- released.
pub record AreRowOps (rows : Rows) (changes : ChangeMap) (taken released : List ℕ) (ops : List RowOp) : Type 0 where
  pub difference : List RowOp
  pub flips : List RowOp
  pub ops_are : ops ≡ difference ++ flips
  pub by_changes : IsDifferenceBy rows changes difference
  pub turns : TurnsBits taken released flips
