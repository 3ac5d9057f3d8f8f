use Rattle.std.proofs.Common.{◌≡◌, suc, length}
use Rattle.std.specs.List.{AllByRecursion}
use Rattle.std.specs.FinMap as map
use Rattle.std.specs.Vec.Iter.{into_iter_items, into_iter_len}
use Rattle.byte_maps.specs.ByteMap.{byte_order}
use Rattle.meta_rows.specs.Prelude.{rows_after, key_of, Rises, rows_of, HasSpace, IsFilling, Awaits}
use Rattle.meta_rows.proofs.filling.Filling.take_all.Given as goal

abbrev pub invariant-loop-op : goal.invariant-loop-op
invariant-loop-op l = record {
  can_next : (goal.iterator-loop-op).can_next l.op-iterator;
  finite : (goal.iterator-loop-op).is_finite l.op-iterator;
  count : into_iter_len l.op-iterator ≡ length (into_iter_items l.op-iterator);
  state : IsFilling l.self;
  rows : rows_after (map.from_sorted {R = byte_order} (rows_of l.self)) (into_iter_items l.op-iterator) ≡ rows_after (map.from_sorted {R = byte_order} (rows_of l.initial.self)) l.fn.ops.items;
  rises : Rises (into_iter_items l.op-iterator);
  awaits : AllByRecursion (λ op. Awaits (key_of op) l.self) (into_iter_items l.op-iterator);
  room : HasSpace (suc (length (into_iter_items l.op-iterator))) l.self.all;
}
