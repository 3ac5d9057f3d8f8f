use Rattle.flight_facts.proofs.Runs.{check_few}
use Rattle.flight_facts.proofs.laws.a_checkpoint_has_few_pieces.Goals as goal

pub returns : goal.returns
returns c = check_few
