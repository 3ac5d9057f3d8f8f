use Rattle.plan_proofs.proofs.PlanLaws.{plans_keep}
use Rattle.plan_proofs.proofs.plans.plans_keep.Goals as goal

pub returns : goal.returns
returns c = plans_keep
