use Rattle.std.proofs.Common.{length, ap, arith}
use Rattle.row_check.specs.Marks.{Marks}
use Rattle.row_check.proofs.MarkSteps.{length-run}
use Rattle.row_check.proofs.unit_marks.UnitMarks.mark_run.Goals as goal

pub mark-requires : goal.mark-requires
mark-requires c = omega (
  arith,
  ap (λ (m : Marks). length m.owned) c.loop-i.invariant,
  length-run c.args.self.now c.args.first c.loop-i.i,
  c.requires,
  c.loop-i-test.true,
  c.loop-i.auto,
)
