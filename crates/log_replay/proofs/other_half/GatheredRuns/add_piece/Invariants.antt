use Rattle.log_replay.specs.OtherHalf.{AddsPiece}
use Rattle.log_replay.proofs.other_half.GatheredRuns.add_piece.Given as goal

abbrev pub invariant-units : goal.invariant-units
invariant-units l = AddsPiece l.at l.k l.bytes l.initial.self l.self
