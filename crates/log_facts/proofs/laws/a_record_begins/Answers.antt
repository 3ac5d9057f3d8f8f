use Rattle.log_facts.proofs.Writing.{half_begin}
use Rattle.log_facts.proofs.laws.a_record_begins.Goals as goal

pub returns : goal.returns
returns c = half_begin
