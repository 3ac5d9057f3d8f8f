use Rattle.std.proofs.Common.{◌≡◌, take}
use Rattle.std.specs.List.{flat_map}
use Rattle.kv_worker.proofs.batch.joined.Given as goal

abbrev pub invariant-loop-one : goal.invariant-loop-one
invariant-loop-one l = l.ops.items ≡ flat_map (λ x. x.ops) (take l.one-index l.fn.queued)
