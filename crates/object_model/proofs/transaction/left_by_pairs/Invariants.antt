use Rattle.std.proofs.Common.{◌≡◌, ◌+◌, drop}
use Rattle.object_model.specs.Prelude.{payload_of_pairs}
use Rattle.object_model.proofs.transaction.left_by_pairs.Given as goal

abbrev pub invariant-loop-pair : goal.invariant-loop-pair
invariant-loop-pair l = l.rest + payload_of_pairs l.pairs ≡ l.fn.room + payload_of_pairs (drop l.pair-index l.pairs)
