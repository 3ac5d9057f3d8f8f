use Rattle.std.proofs.Common.{length}
use Rattle.row_check.proofs.MarkSteps.{AreMarkedTo}
use Rattle.row_check.proofs.unit_marks.UnitMarks.mark_spelled.Given as goal

abbrev pub invariant-extents : goal.invariant-extents
invariant-extents l = AreMarkedTo l.initial.width l.initial.self l.bytes l.fields l.self

abbrev pub decreases-extents : goal.decreases-extents
decreases-extents l = length l.fields
