use Rattle.std.proofs.Common.{◌∙◌, ap, refl, sym, arith}
use Rattle.crc32c_csum.specs.Prelude.{crc32c}
use Rattle.page_sources.proofs.PartLemmas.{sums_more}
use Rattle.page_sources.proofs.parts.first_mismatch.Goals as goal

pub loop-i-init : goal.loop-i-init
loop-i-init c = λ i lt. absurd (omega (arith, lt))

pub loop-i-preserved : goal.loop-i-preserved
loop-i-preserved c =
    sums_more c.loop-i.i c.args.part.now c.args.sums.now c.loop-i.invariant
    (sym c.if-found-kept.false ∙ c.crc32c-found.ensures ∙ ap crc32c c.page_at.ensures)

pub returns-then-found-kept-clause-some : goal.returns-then-found-kept-clause-some
returns-then-found-kept-clause-some c = record {
  index = c.loop-i.i;
  within = c.loop-i-test.true;
  before = c.loop-i.invariant;
  unit = c.new-unit.ensures;
  is_kept = refl;
  is_found = c.crc32c-found.ensures ∙ ap crc32c c.page_at.ensures;
  differs = c.if-found-kept.true;
}
