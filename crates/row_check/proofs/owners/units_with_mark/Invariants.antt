use Rattle.row_check.proofs.Collected.{Collected}
use Rattle.row_check.proofs.owners.units_with_mark.Given as goal

abbrev pub invariant-loop-unit : goal.invariant-loop-unit
invariant-loop-unit l = Collected l.marks l.unit l.units.items
