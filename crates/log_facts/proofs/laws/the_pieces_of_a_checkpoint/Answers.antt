use Rattle.log_facts.proofs.RowsBegin.{record_piece, zero_piece}
use Rattle.log_facts.proofs.laws.the_pieces_of_a_checkpoint.Goals as goal

pub returns : goal.returns
returns c = record { pieces = record_piece; behind = zero_piece }
