use Rattle.std.proofs.Common.{◌≡◌, length}
use Rattle.std.specs.Vec.Iter.{into_iter_items, into_iter_len}
use Rattle.meta_rows.specs.Prelude.{rows_after}
use Rattle.log_replay.specs.Prelude.{rows_so_far, IsParted}
use Rattle.log_replay.proofs.gathering.Gathered.add.Given as goal

abbrev pub invariant-loop-op : goal.invariant-loop-op
invariant-loop-op l = record {
  can_next : (goal.iterator-loop-op).can_next l.op-iterator;
  finite : (goal.iterator-loop-op).is_finite l.op-iterator;
  count : into_iter_len l.op-iterator ≡ length (into_iter_items l.op-iterator);
  parted : IsParted l.self;
  rows : rows_after (rows_so_far l.self) (into_iter_items l.op-iterator) ≡ rows_after (rows_so_far l.initial.self) l.fn.ops.items;
}
