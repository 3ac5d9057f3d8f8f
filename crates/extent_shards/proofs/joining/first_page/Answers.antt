use Rattle.std.proofs.Common.{subst}
use Rattle.onode_codec.specs.Reading.{BeginsWithNoExtent, ReadsHead}
use Rattle.extent_shards.proofs.FirstPages.{page_read, head_there}
use Rattle.extent_shards.proofs.joining.first_page.Goals as goal

pub unreachable-requires : goal.unreachable-requires
unreachable-requires c =
    let width = c.requires.0 in
    head_there width c.args.value.now c.requires.1 (subst (BeginsWithNoExtent width) c.new.ensures (c.in-None.ensures width))

pub returns : goal.returns
returns c width es spelled =
    page_read width c.args.value.now c.read.new.fields c.in-Some.head
    (subst (λ l. ReadsHead l c.read.new.fields c.in-Some.head) c.new.ensures c.in-Some.ensures) es spelled
