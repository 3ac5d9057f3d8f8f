use Rattle.std.proofs.Common.{◌+◌, ◌∙◌, refl, subst, arith}
use Rattle.page_sources.specs.Found.{IsFoundOn}
use Rattle.page_sources.proofs.PartLemmas.{kept_more}
use Rattle.page_sources.proofs.parts.unit_pages.Goals as goal

pub loop-i-init : goal.loop-i-init
loop-i-init c = (refl, c.requires.stands)

pub loop-i-preserved : goal.loop-i-preserved
loop-i-preserved c =
    let was = c.loop-i.invariant in
    let i = c.loop-i.i in (
      c.csum_on.ensures.kept ∙ was.0,
      kept_more c.args.pages.now c.args.first c.args.at i c.in-Some.csum c.loop-i.sums (omega (arith, c.loop-i-test.true, c.requires.few)) was.1
          (subst (λ ps. IsFoundOn ps (c.args.first + i) (c.args.at + i) c.in-Some.csum) was.0 c.in-Some.ensures.stands),
    )
