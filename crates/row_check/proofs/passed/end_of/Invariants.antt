use Rattle.std.proofs.Common.{take}
use Rattle.row_check.specs.Bad.{IsEndOf}
use Rattle.row_check.proofs.passed.end_of.Given as goal

abbrev pub invariant-loop-extent : goal.invariant-loop-extent
invariant-loop-extent l = IsEndOf (take l.extent-index l.extents) l.end
