use Rattle.std.proofs.Common.{◌<◌, All, take}
use Rattle.block_device.proofs.pending.first_ready.Given as goal

abbrev pub invariant-loop-i : goal.invariant-loop-i
invariant-loop-i l = All (λ p. 0 < p.lag) (take l.i l.pending)
