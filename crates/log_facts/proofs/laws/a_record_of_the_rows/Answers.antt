use Rattle.log_facts.proofs.OneRecord.{records_made}
use Rattle.log_facts.proofs.laws.a_record_of_the_rows.Goals as goal

pub returns : goal.returns
returns c = records_made
