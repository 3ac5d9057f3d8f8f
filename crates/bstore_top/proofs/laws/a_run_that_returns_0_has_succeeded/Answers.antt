use Rattle.bstore_top.proofs.RunLaws.{step_succeeded}
use Rattle.bstore_top.proofs.laws.a_run_that_returns_0_has_succeeded.Goals as goal

pub returns : goal.returns
returns c = step_succeeded
