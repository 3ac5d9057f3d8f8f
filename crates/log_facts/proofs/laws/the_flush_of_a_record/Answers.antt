use Rattle.log_facts.proofs.Writing.{half_sync}
use Rattle.log_facts.proofs.laws.the_flush_of_a_record.Goals as goal

pub returns : goal.returns
returns c = half_sync
