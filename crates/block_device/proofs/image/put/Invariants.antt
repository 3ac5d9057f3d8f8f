use Rattle.block_device.proofs.PutLemmas.{IsPutUpTo}
use Rattle.block_device.proofs.image.put.Given as goal

abbrev pub invariant-loop-j : goal.invariant-loop-j
invariant-loop-j l = IsPutUpTo l.tear l.j l.at l.bytes l.stable l.initial.image l.image l.initial.torn l.torn
