use Rattle.std.proofs.Common.{◌≡◌, ◌+◌, drop}
use Rattle.std.specs.Prelude.{sum_by}
use Rattle.object_model.specs.Prelude.{payload_of, payload_limit}
use Rattle.object_model.proofs.transaction.is_payload_over.Given as goal

abbrev pub invariant-loop-op : goal.invariant-loop-op
invariant-loop-op l = l.room + sum_by payload_of l.ops ≡ payload_limit + sum_by payload_of (drop l.op-index l.ops)
