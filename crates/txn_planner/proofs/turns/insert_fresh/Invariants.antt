use Rattle.std.proofs.Common.{map}
use Rattle.txn_planner.proofs.Turned.{AddsFirst}
use Rattle.txn_planner.proofs.turns.insert_fresh.Given as goal

abbrev pub invariant-loop-one : goal.invariant-loop-one
invariant-loop-one l = AddsFirst l.one-index (map (λ f. f.unit) l.fresh) l.fn.set l.set
