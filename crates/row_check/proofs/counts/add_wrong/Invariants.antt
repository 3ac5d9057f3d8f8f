use Rattle.row_check.specs.Tallies.{AddsWrongTo}
use Rattle.row_check.proofs.counts.add_wrong.Given as goal

abbrev pub invariant-loop-index : goal.invariant-loop-index
invariant-loop-index l = AddsWrongTo l.tally l.index l.initial.counts.items l.counts.items
