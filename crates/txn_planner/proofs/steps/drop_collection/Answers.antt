use Rattle.txn_planner.proofs.steps.drop_collection.Goals as goal

pub returns-then-branch-clause-fail : goal.returns-then-branch-clause-fail
returns-then-branch-clause-fail c = (c.if-not-p.false, c.in_ok-has_objects.ensures.some c.if-branch.true)

pub returns-clause-bare : goal.returns-clause-bare
returns-clause-bare c = c.in_ok-has_objects.ensures.none c.if-branch.false
