-- What clauses see of a transaction that is committed.
use Rattle.std.specs.Prelude.{ℕ, List, Option, None}
use Rattle.meta_rows.specs.declared.row_op.RowOp.{RowOp}

-- its place in the book, the row operations that its commit applied, and the number of its deferred row, if it has one
pub record Applied : Type 0 where
  pub place : ℕ
  pub ops : List RowOp
  pub deferred : Option ℕ

-- one without a deferred row
abbrev pub applied_of : ℕ → List RowOp → Applied
applied_of place ops = record { place = place; ops = ops; deferred = None }

-- its deferred row is gone
abbrev pub without_row : Applied → Applied
without_row x = record x { deferred = None }
