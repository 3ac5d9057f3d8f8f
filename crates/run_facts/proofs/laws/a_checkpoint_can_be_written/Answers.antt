use Rattle.run_facts.proofs.SwitchKnown.{checks_fit, checks_spelled, checks_lie, checks_apart, checks_follow}
use Rattle.run_facts.proofs.laws.a_checkpoint_can_be_written.Goals as goal

pub returns-clause-fits : goal.returns-clause-fits
returns-clause-fits c = checks_fit

pub returns-clause-spelled : goal.returns-clause-spelled
returns-clause-spelled c = checks_spelled

pub returns-clause-pieces : goal.returns-clause-pieces
returns-clause-pieces c = checks_lie

pub returns-clause-apart : goal.returns-clause-apart
returns-clause-apart c = checks_apart

pub returns-clause-follows : goal.returns-clause-follows
returns-clause-follows c = checks_follow
