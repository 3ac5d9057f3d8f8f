use Rattle.std.proofs.Common.{◌≡◌, length}
use Rattle.std.specs.Vec.Iter.{into_iter_items, into_iter_len}
use Rattle.meta_rows.specs.Prelude.{IsMerging, Goes}
use Rattle.meta_rows.proofs.merging.Merging.take_chunk.Given as goal

abbrev pub invariant-loop-row : goal.invariant-loop-row
invariant-loop-row l = record {
  can_next : (goal.iterator-loop-row).can_next l.row-iterator;
  finite : (goal.iterator-loop-row).is_finite l.row-iterator;
  count : into_iter_len l.row-iterator ≡ length (into_iter_items l.row-iterator);
  state : IsMerging l.self;
  goes : Goes l.fn.chunk (into_iter_items l.row-iterator) l.initial.self l.self;
}
