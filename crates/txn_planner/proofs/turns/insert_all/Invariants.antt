use Rattle.txn_planner.proofs.Turned.{AddsFirst}
use Rattle.txn_planner.proofs.turns.insert_all.Given as goal

abbrev pub invariant-loop-unit : goal.invariant-loop-unit
invariant-loop-unit l = AddsFirst l.unit-index l.units l.fn.set l.set
