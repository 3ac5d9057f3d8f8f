use Rattle.op_sequencer.proofs.CallLemmas.{pops_are}
use Rattle.op_sequencer.proofs.laws.pops_in_order.Goals as goal

pub returns : goal.returns
returns c = λ calls can. pops_are calls
