use Rattle.std.proofs.Common.{length}
use Rattle.row_check.proofs.MarkSteps.{room, marks_units}
use Rattle.row_check.proofs.unit_marks.UnitMarks.mark_extent.Goals as goal

pub mark_units-requires-clause-csums : goal.mark_units-requires-clause-csums
mark_units-requires-clause-csums c =
    (room c.args.width (length c.args.self.now.owned) c.args.fields.now c.read.new.fields c.in-Some.head c.in-Unit.unit c.requires c.in-Some.ensures
    c.in-Unit.is).1

pub returns-in-Unit : goal.returns-in-Unit
returns-in-Unit c =
    marks_units c.args.width (length c.args.self.now.owned) c.args.fields.now c.read.new.fields c.in-Some.head c.requires c.in-Some.ensures
    c.mark_units.new.fields c.mark_units.ensures.passed.0 c.in-Unit.unit c.args.self.now c.mark_units.new.self c.in-Unit.is
    c.mark_units.ensures.passed.1 c.mark_units.ensures.marked
