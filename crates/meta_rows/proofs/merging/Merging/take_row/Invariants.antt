use Rattle.std.proofs.Common.{[], ◌∷◌, length}
use Rattle.meta_rows.specs.Prelude.{IsMerging, Goes}
use Rattle.meta_rows.proofs.merging.Merging.take_row.Given as goal

abbrev pub invariant-loop-op : goal.invariant-loop-op
invariant-loop-op l = record {
  state : IsMerging l.self;
  goes : Goes (l.row ∷ []) (l.row ∷ []) l.initial.self l.self;
}

abbrev pub decreases-loop-op : goal.decreases-loop-op
decreases-loop-op l = length l.self.ops.items
