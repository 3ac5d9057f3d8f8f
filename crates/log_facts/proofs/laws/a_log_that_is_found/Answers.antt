use Rattle.log_facts.proofs.Found.{found_records}
use Rattle.log_facts.proofs.laws.a_log_that_is_found.Goals as goal

pub returns : goal.returns
returns c = found_records
