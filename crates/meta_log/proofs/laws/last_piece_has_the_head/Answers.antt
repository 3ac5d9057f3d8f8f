use Rattle.meta_log.proofs.PieceLemmas.{piece_first-last}
use Rattle.meta_log.proofs.laws.last_piece_has_the_head.Goals as goal

pub returns : goal.returns
returns c = piece_first-last
