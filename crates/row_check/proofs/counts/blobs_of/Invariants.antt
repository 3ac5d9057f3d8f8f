use Rattle.std.proofs.Common.{◌≡◌, ℕ, [], None, drop}
use Rattle.meta_rows.specs.Prelude.{rows_from_to}
use Rattle.meta_log.specs.Prelude.{width_of}
use Rattle.row_check.specs.Tallies.{AreTallies, IsUncounted}
use Rattle.row_check.proofs.BlobList.{BlobBefore}
use Rattle.row_check.proofs.counts.blobs_of.Given as goal

abbrev pub invariant-loop-key : goal.invariant-loop-key
invariant-loop-key l = record {
  can_next : (goal.iterator-loop-key).can_next l.key-iterator;
  finite : (goal.iterator-loop-key).is_finite l.key-iterator;
  at : ℕ;
  left : l.key-iterator ≡ drop at (rows_from_to l.fn.rows.rows [] None);
  blobs : AreTallies (width_of l.fn.sup) l.fn.rows.rows (BlobBefore (width_of l.fn.sup) (rows_from_to l.fn.rows.rows [] None) at) IsUncounted l.tallies;
}
