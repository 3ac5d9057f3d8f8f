use Rattle.switch_facts.proofs.Apart.{pieces_fit, pieces_apart}
use Rattle.switch_facts.proofs.laws.the_pieces_are_apart.Goals as goal

pub returns : goal.returns
returns c = record { fit = pieces_fit; apart = pieces_apart }
