use Rattle.crash_facts.proofs.Submitted.{submitted_stand, unread_good}
use Rattle.crash_facts.proofs.laws.a_store_can_be_read.Goals as goal

pub returns-clause-stand : goal.returns-clause-stand
returns-clause-stand c = submitted_stand

pub returns-clause-answered : goal.returns-clause-answered
returns-clause-answered c = unread_good
