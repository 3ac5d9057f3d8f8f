use Rattle.std.proofs.Common.{◌≡◌, take}
use Rattle.meta_rows.specs.Prelude.{ops_bytes}
use Rattle.meta_rows.proofs.writing.encode.Given as goal

abbrev pub invariant-loop-op : goal.invariant-loop-op
invariant-loop-op l = l.out.items ≡ ops_bytes (take l.op-index l.ops)
