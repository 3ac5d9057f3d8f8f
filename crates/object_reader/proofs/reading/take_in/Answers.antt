use Rattle.std.proofs.Common.{◌*◌, ◌/◌, take, length, ap, ap₂, ◌∙◌, le_antisymm}
use Rattle.crc32c_csum.specs.Prelude.{remainder}
use Rattle.object_reader.proofs.ReadLemmas.{page_in, rest_in}
use Rattle.object_reader.proofs.reading.take_in.Goals as goal

pub loop-i-preserved : goal.loop-i-preserved
loop-i-preserved c =
    page_in c.loop-i.i c.args.digest.now c.loop-i.digest c.update_page.new.self c.args.front.now c.args.sums.now c.loop-i.invariant c.update_page.ensures c.requires.sums
    c.loop-i-test.true

pub returns : goal.returns
returns c =
    c.update.ensures
    ∙ ap₂ remainder (c.loop-i.invariant ∙ ap (λ i. remainder c.args.digest.now (take (4096 * i) c.args.front.now)) (le_antisymm c.loop-i.auto.i-end c.loop-i-test.false))
    c.split_at.ensures.back
    ∙ rest_in (4096 * (length c.args.front.now / 4096)) c.args.digest.now c.args.front.now
