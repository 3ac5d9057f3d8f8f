use Rattle.space_facts.proofs.Within.{within_opened, within_joined, within_applied, within_rewritten}
use Rattle.space_facts.proofs.laws.rows_stay_within_the_log.Goals as goal

pub returns-clause-opened : goal.returns-clause-opened
returns-clause-opened c = within_opened

pub returns-clause-joined : goal.returns-clause-joined
returns-clause-joined c = within_joined

pub returns-clause-applied : goal.returns-clause-applied
returns-clause-applied c = within_applied

pub returns-clause-rewritten : goal.returns-clause-rewritten
returns-clause-rewritten c = within_rewritten
