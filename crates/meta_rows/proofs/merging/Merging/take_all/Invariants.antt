use Rattle.std.proofs.Common.{◌≡◌, length}
use Rattle.std.specs.Vec.Iter.{into_iter_items, into_iter_len}
use Rattle.meta_rows.specs.Prelude.{joined, IsMerging, Goes}
use Rattle.meta_rows.proofs.merging.Merging.take_all.Given as goal

abbrev pub invariant-loop-chunk : goal.invariant-loop-chunk
invariant-loop-chunk l = record {
  can_next : (goal.iterator-loop-chunk).can_next l.chunk-iterator;
  finite : (goal.iterator-loop-chunk).is_finite l.chunk-iterator;
  count : into_iter_len l.chunk-iterator ≡ length (into_iter_items l.chunk-iterator);
  state : IsMerging l.merging;
  goes : Goes (joined l.fn.chunks.items) (joined (into_iter_items l.chunk-iterator)) l.initial.merging l.merging;
}
