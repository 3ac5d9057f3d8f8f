use Rattle.std.proofs.Common.{◌≤◌, ◌-◌, length}
use Rattle.op_sequencer.proofs.TurnLemmas.{AreBelow, AreNotBelow}
use Rattle.op_sequencer.proofs.sequencer.index_of.Given as goal

abbrev pub invariant-loop-low : goal.invariant-loop-low
invariant-loop-low l = record { order : l.low ≤ l.high; within : l.high ≤ length l.turns.items; below : AreBelow l.place l.low l.turns.items; rest : AreNotBelow l.place l.high l.turns.items }

abbrev pub decreases-loop-low : goal.decreases-loop-low
decreases-loop-low l = l.high - l.low
