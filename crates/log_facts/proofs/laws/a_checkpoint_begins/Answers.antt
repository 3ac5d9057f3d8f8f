use Rattle.log_facts.proofs.Switching.{check_begin}
use Rattle.log_facts.proofs.laws.a_checkpoint_begins.Goals as goal

pub returns : goal.returns
returns c = check_begin
