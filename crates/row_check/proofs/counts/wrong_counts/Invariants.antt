use Rattle.row_check.proofs.SlotOrder.{AreWrongTo}
use Rattle.row_check.proofs.counts.wrong_counts.Given as goal

abbrev pub invariant-loop-tally : goal.invariant-loop-tally
invariant-loop-tally l = AreWrongTo l.tally-items l.tally-index l.counts.items
