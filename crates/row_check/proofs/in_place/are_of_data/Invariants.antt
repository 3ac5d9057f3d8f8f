use Rattle.row_check.proofs.DataBits.{AreOfDataTo}
use Rattle.row_check.proofs.in_place.are_of_data.Given as goal

abbrev pub invariant-loop-place : goal.invariant-loop-place
invariant-loop-place l = AreOfDataTo l.fn.sup l.fn.row l.fn.bits l.place
