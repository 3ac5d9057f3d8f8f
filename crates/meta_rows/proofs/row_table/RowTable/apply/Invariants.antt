use Rattle.std.proofs.Common.{◌≡◌, ◌+◌, ◌≤◌, length}
use Rattle.std.specs.Vec.Iter.{into_iter_items, into_iter_len}
use Rattle.meta_rows.specs.Prelude.{rows_after}
use Rattle.meta_rows.proofs.row_table.RowTable.apply.Given as goal

abbrev pub invariant-loop-op : goal.invariant-loop-op
invariant-loop-op l = record {
  can_next : (goal.iterator-loop-op).can_next l.op-iterator;
  finite : (goal.iterator-loop-op).is_finite l.op-iterator;
  count : into_iter_len l.op-iterator ≡ length (into_iter_items l.op-iterator);
  rows : rows_after l.self.rows (into_iter_items l.op-iterator) ≡ rows_after l.initial.self.rows l.fn.ops.items;
  room : length (into_iter_items l.op-iterator) ≤ l.self.room;
  kept : l.initial.self.room + length (into_iter_items l.op-iterator) ≤ l.self.room + length l.fn.ops.items;
}
