use Rattle.plan_proofs.proofs.Replies.{large_submitted, small_submitted, refused_by, taken_by}
use Rattle.plan_proofs.proofs.plans.replies_by_drafts.Goals as goal

pub returns-clause-too_large : goal.returns-clause-too_large
returns-clause-too_large c = large_submitted

pub returns-clause-small : goal.returns-clause-small
returns-clause-small c = small_submitted

pub returns-clause-refused : goal.returns-clause-refused
returns-clause-refused c = refused_by

pub returns-clause-taken : goal.returns-clause-taken
returns-clause-taken c = taken_by
