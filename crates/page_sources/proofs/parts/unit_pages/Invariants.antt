use Rattle.std.proofs.Common.{◌≡◌}
use Rattle.page_sources.specs.Parts.{AreKept}
use Rattle.page_sources.proofs.parts.unit_pages.Given as goal

abbrev pub invariant-loop-i : goal.invariant-loop-i
invariant-loop-i l = (l.pages ≡ l.initial.pages) × AreKept l.initial.pages l.first l.at l.i l.sums
