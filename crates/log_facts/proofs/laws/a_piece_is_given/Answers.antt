use Rattle.log_facts.proofs.Writing.{half_piece}
use Rattle.log_facts.proofs.laws.a_piece_is_given.Goals as goal

pub returns : goal.returns
returns c = half_piece
