use Rattle.std.proofs.Common.{◌≡◌, ◌+◌, ◌∙◌, None, refl, subst}
use Rattle.page_sources.specs.Found.{unit_found}
use Rattle.page_sources.proofs.PartLemmas.{one_hole, hole_more}
use Rattle.page_sources.proofs.parts.hole_pages.Goals as goal

pub loop-i-init : goal.loop-i-init
loop-i-init c = (refl, one_hole c.args.pages.now c.args.first c.requires.hole)

pub loop-i-preserved : goal.loop-i-preserved
loop-i-preserved c =
    let was = c.loop-i.invariant in (
      c.is_hole.ensures.kept ∙ was.0,
      hole_more c.args.pages.now c.args.first c.loop-i.i was.1
          (subst (λ ps. unit_found ps (c.args.first + c.loop-i.i) ≡ None) was.0 (c.is_hole.ensures.hole c.if-not-is_hole.false)),
    )
