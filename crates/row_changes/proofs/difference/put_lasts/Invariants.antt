use Rattle.std.proofs.Common.{◌≡◌, ◌++◌, length}
use Rattle.std.specs.Vec.Iter.{into_iter_items, into_iter_len}
use Rattle.row_changes.specs.Log.{ops_of, lasts, ChangesRise}
use Rattle.row_changes.specs.Ahead.{LieAheadOf}
use Rattle.row_changes.proofs.Sorted.{held_all}
use Rattle.row_changes.proofs.difference.put_lasts.Given as goal

abbrev pub invariant-loop-change : goal.invariant-loop-change
invariant-loop-change l = record {
  can_next : (goal.iterator-loop-change).can_next l.change-iterator;
  finite : (goal.iterator-loop-change).is_finite l.change-iterator;
  count : into_iter_len l.change-iterator ≡ length (into_iter_items l.change-iterator);
  rise : ChangesRise (held_all l.held ++ into_iter_items l.change-iterator);
  ahead : LieAheadOf l.fn.rows.rows l.ahead l.held;
  ops : l.ops ++ ops_of l.fn.rows.rows (lasts (held_all l.held ++ (into_iter_items l.change-iterator)))
      ≡ ops_of l.fn.rows.rows (lasts l.fn.sorted.items);
}
