use Rattle.log_facts.proofs.Found.{records_push}
use Rattle.log_facts.proofs.laws.an_event_behind_the_records.Goals as goal

pub returns : goal.returns
returns c = records_push
