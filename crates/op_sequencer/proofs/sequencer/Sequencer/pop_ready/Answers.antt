use Rattle.op_sequencer.proofs.TurnLemmas.{ascend_drop}
use Rattle.op_sequencer.proofs.sequencer.Sequencer.pop_ready.Goals as goal

pub invariant_of-self : goal.invariant_of-self
invariant_of-self c = rw c.pop_front.ensures.rest (ascend_drop c.self.inside.turns.items c.self.invariant)
