use Rattle.std.proofs.Common.{◌≡◌}
use Rattle.page_sources.specs.Parts.{AreHoles}
use Rattle.page_sources.proofs.parts.hole_pages.Given as goal

abbrev pub invariant-loop-i : goal.invariant-loop-i
invariant-loop-i l = (l.pages ≡ l.initial.pages) × AreHoles l.initial.pages l.first l.i
