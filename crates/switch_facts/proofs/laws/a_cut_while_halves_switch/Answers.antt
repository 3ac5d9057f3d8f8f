use Rattle.switch_facts.proofs.Cuts.{cut_of_check}
use Rattle.switch_facts.proofs.laws.a_cut_while_halves_switch.Goals as goal

pub returns : goal.returns
returns c = cut_of_check
