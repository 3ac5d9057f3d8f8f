use Rattle.std.proofs.Common.{◌≡◌, take}
use Rattle.txn_planner.proofs.standing.released_units.Given as goal

abbrev pub invariant-loop-number : goal.invariant-loop-number
invariant-loop-number l = l.units ≡ take l.number-index l.number-items
