use Rattle.plan_rows.proofs.Agreeing.{agree_itself, agree_back, agree_onward, keeps_over}
use Rattle.plan_rows.proofs.laws.agreement.Goals as goal

pub returns-clause-itself : goal.returns-clause-itself
returns-clause-itself c = agree_itself

pub returns-clause-back : goal.returns-clause-back
returns-clause-back c = agree_back

pub returns-clause-onward : goal.returns-clause-onward
returns-clause-onward c = agree_onward

pub returns-clause-plans : goal.returns-clause-plans
returns-clause-plans c = λ s names view other plan agree blobs keeps. keeps_over s names view other plan agree blobs keeps
