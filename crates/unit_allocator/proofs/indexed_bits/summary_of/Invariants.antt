use Rattle.unit_allocator.proofs.Summary.{IsSummaryOf}
use Rattle.unit_allocator.proofs.indexed_bits.summary_of.Given as goal

abbrev pub invariant-loop-w : goal.invariant-loop-w
invariant-loop-w l = IsSummaryOf l.words l.w l.summary.items
