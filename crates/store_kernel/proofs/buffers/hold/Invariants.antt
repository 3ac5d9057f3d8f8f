use Rattle.std.proofs.Common.{take}
use Rattle.store_kernel.proofs.BufferLemmas.{HoldsSo}
use Rattle.write_buffers.specs.Prelude.{memory_in}
use Rattle.store_kernel.proofs.buffers.hold.Given as goal

abbrev pub invariant-loop-i : goal.invariant-loop-i
invariant-loop-i l = HoldsSo (take l.i l.fresh) (memory_in l.initial.buffers) (memory_in l.buffers)
