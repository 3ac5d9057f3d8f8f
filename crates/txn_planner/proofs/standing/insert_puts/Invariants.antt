use Rattle.std.proofs.Common.{take}
use Rattle.txn_planner.specs.Standing.{GetsNumbers}
use Rattle.txn_planner.proofs.PutPages.{AnyOf, IsTaking}
use Rattle.txn_planner.proofs.standing.insert_puts.Given as goal

abbrev pub invariant-loop-entry : goal.invariant-loop-entry
invariant-loop-entry l = GetsNumbers (AnyOf IsTaking (take l.entry-index l.entry-items)) l.fn.takings l.takings
