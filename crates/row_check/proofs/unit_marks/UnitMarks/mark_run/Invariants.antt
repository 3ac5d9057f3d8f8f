use Rattle.std.proofs.Common.{◌≡◌}
use Rattle.row_check.specs.Marks.{run_marked}
use Rattle.row_check.proofs.unit_marks.UnitMarks.mark_run.Given as goal

abbrev pub invariant-loop-i : goal.invariant-loop-i
invariant-loop-i l = l.self ≡ run_marked l.initial.self l.first l.i
