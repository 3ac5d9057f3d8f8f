use Rattle.plan_proofs.proofs.PlanLaws.{asks_are_few}
use Rattle.plan_proofs.proofs.plans.asks_are_few.Goals as goal

pub returns : goal.returns
returns c = asks_are_few
