use Rattle.page_sources.specs.Parts.{AreSums}
use Rattle.page_sources.proofs.parts.first_mismatch.Given as goal

abbrev pub invariant-loop-i : goal.invariant-loop-i
invariant-loop-i l = AreSums l.i l.part l.sums
