use Rattle.meta_log.proofs.PieceLemmas.{in_a_piece, in_one_piece}
use Rattle.meta_log.proofs.laws.each_unit_in_one_piece.Goals as goal

pub returns : goal.returns
returns c = record { some = in_a_piece; one = in_one_piece }
