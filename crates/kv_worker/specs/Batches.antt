-- When a batch is taken, when it is sealed, and when it is committed.
use Rattle.std.specs.Prelude.{◌≡◌, ◌+◌, ◌≤◌, List, Some, None}
use Rattle.meta_rows.specs.declared.row_op.RowOp.{RowOp}
use Rattle.meta_log.specs.Prelude.{unit_count, IsSealable}
use Rattle.meta_store.specs.Store.{Meta, Begun, piece_count_of}
use Rattle.store_steps.specs.declared.context.Context.{Context}
use Rattle.store_steps.specs.declared.flight.FlushState.TheVariants.{Flushed}
use Rattle.store_steps.specs.Prelude.{Batch, most_grouped, choice, left_by, batch_ops, sum_needs}

-- the batch has the contexts that come next, in the order in which they do, and the others stay
pub record TakesBatch (old new batch : List Context) : Type 0 where
  pub is : batch ≡ choice most_grouped old
  pub left : new ≡ left_by most_grouped old

-- the batch of these contexts, once both its flushes have ended well
abbrev pub flushed_batch : List Context → Batch
flushed_batch xs = record { contexts = xs; first = Flushed; second = Flushed }

-- the row operations of its contexts
abbrev pub ops_of_batch : List Context → List RowOp
ops_of_batch xs = batch_ops (flushed_batch xs)

-- neither a record nor a checkpoint is being written, and a record of its operations can be made and fits behind the tail
pub record CanSeal (xs : List Context) (m : Meta) : Type 0 where
  pub idle : m.begun ≡ None
  pub resting : m.check ≡ None
  pub sealable : IsSealable m.number (ops_of_batch xs)
  pub fits : m.tail + unit_count m.number (ops_of_batch xs) ≤ m.sup.half

-- its record is written, and the units that its contexts need are set aside
pub record CanCommit (xs : List Context) (m : Meta) : Type 0 where
  pub writing : Begun
  pub begun : m.begun ≡ Some writing
  pub ops : writing.ops ≡ ops_of_batch xs
  pub written : writing.written ≡ piece_count_of m writing
  pub reserved : sum_needs xs ≤ m.reserved
