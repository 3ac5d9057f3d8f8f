use Rattle.std.proofs.Common.{◌≡◌, ◌++◌, take, drop, map}
use Rattle.block_device.specs.Prelude.{lowered}
use Rattle.block_device.proofs.pending.lower_lags.Given as goal

abbrev pub invariant-loop-p : goal.invariant-loop-p
invariant-loop-p l = l.pending ≡ map lowered (take l.p-index l.initial.pending) ++ drop l.p-index l.initial.pending
