use Rattle.meta_log.proofs.RunLemmas.{record_piece, zero_piece}
use Rattle.meta_log.proofs.laws.pieces_of_a_checkpoint.Goals as goal

pub returns : goal.returns
returns c = record { first = record_piece; others = zero_piece }
