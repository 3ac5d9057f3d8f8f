use Rattle.log_facts.proofs.Found.{records_left}
use Rattle.log_facts.proofs.laws.a_crash_leaves_the_records.Goals as goal

pub returns : goal.returns
returns c = records_left
