use Rattle.switch_facts.proofs.Steps.{switch_makes}
use Rattle.switch_facts.proofs.laws.a_switch_makes_the_half.Goals as goal

pub returns : goal.returns
returns c = switch_makes
