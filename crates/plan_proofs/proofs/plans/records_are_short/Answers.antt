use Rattle.plan_proofs.proofs.PlanLaws.{plans_short}
use Rattle.plan_proofs.proofs.plans.records_are_short.Goals as goal

pub returns : goal.returns
returns c = plans_short
