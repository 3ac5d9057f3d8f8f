use Rattle.std.proofs.Common.{take}
use Rattle.std.specs.FinSet as set
use Rattle.txn_planner.specs.Standing.{GetsNumbers}
use Rattle.txn_planner.proofs.PutPages.{AnyOf, IsPutAt}
use Rattle.txn_planner.proofs.standing.standing.Given as goal

abbrev pub invariant-loop-entry : goal.invariant-loop-entry
invariant-loop-entry l = GetsNumbers (AnyOf IsPutAt (take l.entry-index l.entry-items)) set.empty l.takings
