use Rattle.log_facts.proofs.Writing.{half_synced}
use Rattle.log_facts.proofs.laws.the_flush_has_ended.Goals as goal

pub returns : goal.returns
returns c = half_synced
