use Rattle.std.proofs.Common.{ap, ◌∙◌}
use Rattle.op_sequencer.specs.Turns.{done_at}
use Rattle.op_sequencer.proofs.TurnLemmas.{set_is_done, ascend_done}
use Rattle.op_sequencer.proofs.sequencer.Sequencer.io_done.Goals as goal

pub invariant_of-self : goal.invariant_of-self
invariant_of-self c =
    rw (set_is_done c.args.place 0 c.index_of-at.result c.self.inside.turns.items c.index_mut.result.now c.self.invariant c.index_of-at.ensures c.index_mut.ensures.value)
    (ascend_done c.args.place 0 c.self.inside.turns.items c.self.invariant)

pub returns : goal.returns
returns c =
    set_is_done c.args.place 0 c.index_of-at.result c.self.inside.turns.items c.index_mut.result.now c.self.invariant c.index_of-at.ensures c.index_mut.ensures.value
    ∙ ap (done_at c.args.place) c.self.view_is
