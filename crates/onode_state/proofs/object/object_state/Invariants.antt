use Rattle.std.proofs.Common.{◌≡◌, ℕ, None, take, drop}
use Rattle.meta_rows.specs.Prelude.{rows_from_to}
use Rattle.row_format.specs.Prelude.{onode_key}
use Rattle.onode_state.proofs.OnodeRows.{IsSeen}
use Rattle.onode_state.proofs.object.object_state.Given as goal

abbrev pub invariant-loop-key : goal.invariant-loop-key
invariant-loop-key l = record {
  can_next : (goal.iterator-loop-key).can_next l.key-iterator;
  finite : (goal.iterator-loop-key).is_finite l.key-iterator;
  at : ℕ;
  left : l.key-iterator ≡ drop at (rows_from_to l.fn.rows.rows (onode_key l.fn.coll l.fn.object) None);
  seen : IsSeen l.fn.width l.fn.rows.rows l.fn.coll l.fn.object (take at (rows_from_to l.fn.rows.rows (onode_key l.fn.coll l.fn.object) None))
      l.size l.shards.firsts.items l.shards.pages;
}
