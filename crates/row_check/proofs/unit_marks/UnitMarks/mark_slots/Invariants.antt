use Rattle.std.proofs.Common.{◌≡◌, take}
use Rattle.row_check.specs.Marks.{slots_marked}
use Rattle.row_check.proofs.unit_marks.UnitMarks.mark_slots.Given as goal

abbrev pub invariant-loop-i : goal.invariant-loop-i
invariant-loop-i l = l.self ≡ slots_marked l.initial.self l.first (take l.i l.slots)
