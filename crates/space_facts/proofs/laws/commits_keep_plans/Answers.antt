use Rattle.space_facts.proofs.Making.{below_committed}
use Rattle.space_facts.proofs.Moving.{good_committed, each_committed, apart_committed, homes_committed}
use Rattle.space_facts.proofs.laws.commits_keep_plans.Goals as goal

pub returns-clause-good : goal.returns-clause-good
returns-clause-good c = good_committed

pub returns-clause-planned : goal.returns-clause-planned
returns-clause-planned c = each_committed

pub returns-clause-apart : goal.returns-clause-apart
returns-clause-apart c = λ sup rows batch pending limits good each apart. apart_committed sup rows batch pending good each apart limits

pub returns-clause-homes : goal.returns-clause-homes
returns-clause-homes c = homes_committed

pub returns-clause-blobs : goal.returns-clause-blobs
returns-clause-blobs c = below_committed
