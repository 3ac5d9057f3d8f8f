use Rattle.std.proofs.Common.{◌≡◌, ◌+◌, ◌≤◌, ◌++◌, reverse}
use Rattle.std.specs.Vec.{vec_len, vec_capacity}
use Rattle.meta_rows.proofs.chunk.move_upper.Given as goal

abbrev pub invariant-loop-rows : goal.invariant-loop-rows
invariant-loop-rows l = record {
  rows : l.rows.items ++ reverse l.upper.items ≡ l.fn.rows.items;
  many : vec_len l.rows + vec_len l.upper ≡ vec_len l.fn.rows;
  low : l.fn.from ≤ vec_len l.rows;
  kept : vec_capacity l.rows ≡ vec_capacity l.fn.rows;
  room : vec_capacity l.upper ≡ vec_capacity l.fn.upper;
}

abbrev pub decreases-loop-rows : goal.decreases-loop-rows
decreases-loop-rows l = vec_len l.rows
