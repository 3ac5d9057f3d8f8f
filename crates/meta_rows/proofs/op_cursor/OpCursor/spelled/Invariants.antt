use Rattle.std.proofs.Common.{◌≡◌, take, drop}
use Rattle.meta_rows.specs.Prelude.{ops_bytes, AllFit, part_with}
use Rattle.meta_rows.proofs.op_cursor.OpCursor.spelled.Given as goal

abbrev pub invariant-loop-op : goal.invariant-loop-op
invariant-loop-op l = record {
  fit : AllFit l.op-items;
  part : part_with l.part (ops_bytes (drop l.op-index l.op-items)) ≡ take l.fn.count (drop l.fn.self.passed (ops_bytes l.op-items));
}
