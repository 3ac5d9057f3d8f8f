use Rattle.log_facts.proofs.Switching.{check_piece}
use Rattle.log_facts.proofs.laws.a_checkpoint_gives_a_run.Goals as goal

pub returns : goal.returns
returns c = check_piece
