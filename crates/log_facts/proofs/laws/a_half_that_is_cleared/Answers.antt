use Rattle.log_facts.proofs.Found.{cleared_half}
use Rattle.log_facts.proofs.laws.a_half_that_is_cleared.Goals as goal

pub returns : goal.returns
returns c = cleared_half
