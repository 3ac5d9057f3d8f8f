use Rattle.space_facts.proofs.Supers.{good_switched, planned_switched}
use Rattle.space_facts.proofs.laws.switches_keep_plans.Goals as goal

pub returns-clause-good : goal.returns-clause-good
returns-clause-good c = good_switched

pub returns-clause-planned : goal.returns-clause-planned
returns-clause-planned c = planned_switched
