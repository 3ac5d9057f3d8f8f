use Rattle.meta_log.proofs.PieceLemmas.{lies, given_from-none, given_from-all}
use Rattle.meta_log.proofs.laws.pieces_lie_in_a_row.Goals as goal

pub returns : goal.returns
returns c = record { each = lies; begin = given_from-none; last = given_from-all }
