use Rattle.log_facts.proofs.Switching.{check_flush, check_flushed, check_half}
use Rattle.log_facts.proofs.laws.a_checkpoint_is_flushed.Goals as goal

pub returns : goal.returns
returns c = record { submitted = check_flush; ended = check_flushed; half = check_half }
