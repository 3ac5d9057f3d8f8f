use Rattle.std.proofs.Common.{◌≡◌, ◌+◌, length, take}
use Rattle.meta_rows.specs.Prelude.{ops_bytes, AllFit}
use Rattle.meta_rows.proofs.op_cursor.OpCursor.behind.Given as goal

abbrev pub invariant-loop-op : goal.invariant-loop-op
invariant-loop-op l = record {
  fit : AllFit l.op-items;
  ops : l.at.ops ≡ l.fn.self.ops + l.op-index;
  place : length (ops_bytes (take l.op-index l.op-items)) + l.at.passed ≡ l.fn.self.passed + l.fn.count;
}
