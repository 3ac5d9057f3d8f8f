use Rattle.std.proofs.Common.{◌≡◌, ◌≤◌, take}
use Rattle.std.specs.Vec.{vec_capacity}
use Rattle.meta_rows.proofs.chunk.Chunk.copy.Given as goal

abbrev pub invariant-loop-row : goal.invariant-loop-row
invariant-loop-row l = record {
  items : l.rows.items ≡ take l.row-index l.row-items;
  room : 128 ≤ vec_capacity l.rows;
}
