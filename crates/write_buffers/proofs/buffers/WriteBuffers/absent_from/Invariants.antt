use Rattle.write_buffers.specs.Buffers.{memory_in, AreNotIn}
use Rattle.write_buffers.proofs.buffers.WriteBuffers.absent_from.Given as goal

abbrev pub invariant-loop-i : goal.invariant-loop-i
invariant-loop-i l = AreNotIn (memory_in l.self) l.at l.i
