use Rattle.log_facts.proofs.Writing.{half_commit}
use Rattle.log_facts.proofs.laws.a_record_is_committed.Goals as goal

pub returns : goal.returns
returns c = half_commit
