use Rattle.std.proofs.Common.{◌≡◌, ◌++◌, take}
use Rattle.kv_worker.proofs.batch.push_copies.Given as goal

abbrev pub invariant-loop-op : goal.invariant-loop-op
invariant-loop-op l = l.list.items ≡ l.fn.list.items ++ take l.op-index l.fn.ops
