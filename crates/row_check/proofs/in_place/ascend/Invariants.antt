use Rattle.row_check.proofs.Ascending.{InSteps}
use Rattle.row_check.proofs.in_place.ascend.Given as goal

abbrev pub invariant-loop-i : goal.invariant-loop-i
invariant-loop-i l = InSteps l.extents l.i
