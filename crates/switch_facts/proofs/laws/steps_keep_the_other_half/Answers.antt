use Rattle.switch_facts.proofs.Steps.{other_goes}
use Rattle.switch_facts.proofs.laws.steps_keep_the_other_half.Goals as goal

pub returns : goal.returns
returns c = other_goes
