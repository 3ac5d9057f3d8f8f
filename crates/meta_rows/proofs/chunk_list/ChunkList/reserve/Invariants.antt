use Rattle.std.proofs.Common.{◌≡◌, ◌+◌, ◌≤◌}
use Rattle.std.specs.Vec.{vec_len, vec_capacity}
use Rattle.meta_rows.specs.Prelude.{AllEmpty}
use Rattle.meta_rows.proofs.chunk_list.ChunkList.reserve.Given as goal

abbrev pub invariant-loop : goal.invariant-loop
invariant-loop l = record {
  items : l.self.list.items ≡ l.fn.self.list.items;
  many : vec_len l.self.list ≡ vec_len l.fn.self.list;
  free : AllEmpty l.self.spare.items;
  count : vec_len l.self.spare ≡ l.counter;
  had : vec_len l.fn.self.spare ≤ l.counter;
  most : l.counter ≤ l.most;
  places : vec_len l.self.list + l.most ≤ vec_capacity l.self.list;
  spares : vec_len l.self.list + l.most ≤ vec_capacity l.self.spare;
}
