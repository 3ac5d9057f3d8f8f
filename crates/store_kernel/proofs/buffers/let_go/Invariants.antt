use Rattle.store_kernel.proofs.BufferLemmas.{GoesOn}
use Rattle.write_buffers.specs.Prelude.{memory_in}
use Rattle.store_kernel.proofs.buffers.let_go.Given as goal

abbrev pub invariant-loop-one : goal.invariant-loop-one
invariant-loop-one l = GoesOn l.fresh (memory_in l.initial.buffers) (memory_in l.buffers) l.one-index
