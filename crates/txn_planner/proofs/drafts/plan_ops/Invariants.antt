use Rattle.std.proofs.Common.{◌*◌, ◌≤◌, ℕ, length}
use Rattle.object_model.specs.Prelude.{Change}
use Rattle.meta_rows.specs.Prelude.{Rows}
use Rattle.unit_fields.specs.declared.width.Width.{Width}
use Rattle.txn_planner.specs.declared.planning.Planning.{Planning}
use Rattle.value_changes.specs.Changed.{AreOfValues}
use Rattle.txn_planner.specs.Planning.{PlannedTo}
use Rattle.txn_planner.proofs.drafts.plan_ops.Given as goal

-- what is known of the operations so far
pub record AreSoFar (w : Width) (change : Change) (rows : Rows) (n : ℕ) (p : Planning) : Type 0 where
  pub inside : n ≤ length change.ops
  pub planned : PlannedTo w change rows n p
  pub taken : p.taken ≤ 258 * n
  pub of_values : AreOfValues change.coll p.values

abbrev pub invariant-loop-at : goal.invariant-loop-at
invariant-loop-at l = AreSoFar l.width l.txn l.rows.rows l.at l.planning
