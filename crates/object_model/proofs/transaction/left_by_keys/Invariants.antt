use Rattle.std.proofs.Common.{◌≡◌, ◌+◌, drop}
use Rattle.object_model.specs.Prelude.{payload_of_keys}
use Rattle.object_model.proofs.transaction.left_by_keys.Given as goal

abbrev pub invariant-loop-key : goal.invariant-loop-key
invariant-loop-key l = l.rest + payload_of_keys l.keys ≡ l.fn.room + payload_of_keys (drop l.key-index l.keys)
