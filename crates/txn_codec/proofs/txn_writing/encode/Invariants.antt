use Rattle.std.proofs.Common.{◌≡◌, ◌++◌, take}
use Rattle.std.specs.List.{flat_map, AllByRecursion}
use Rattle.txn_codec.specs.Prelude.{txn_op_bytes, FitsOp}
use Rattle.txn_codec.proofs.txn_writing.encode.Given as goal

abbrev pub invariant-loop-op : goal.invariant-loop-op
invariant-loop-op l =
    AllByRecursion FitsOp (take l.op-index l.ops) × (l.out.items ≡ l.initial.out.items ++ flat_map txn_op_bytes (take l.op-index l.ops))
