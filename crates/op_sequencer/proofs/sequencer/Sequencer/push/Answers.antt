use Rattle.std.proofs.Common.{arith}
use Rattle.op_sequencer.proofs.TurnLemmas.{ascend_push}
use Rattle.op_sequencer.proofs.sequencer.Sequencer.push.Goals as goal

pub invariant_of-self-2 : goal.invariant_of-self-2
invariant_of-self-2 c =
    rw c.in_ok-push_back.ensures.items
    (ascend_push 0 c.args.place c.args.done c.self.inside.turns.items c.self.invariant (omega arith) (rw (← c.self.view_is) at c.requires))
