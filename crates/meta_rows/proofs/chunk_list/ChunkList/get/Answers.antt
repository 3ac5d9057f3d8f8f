use Rattle.std.proofs.Common.{◌∙◌}
use Rattle.meta_rows.proofs.ChunkLemmas.{looked}
use Rattle.meta_rows.proofs.chunk_list.ChunkList.get.Goals as goal

pub get-requires : goal.get-requires
get-requires c = (looked c.args.key.now c.as_slice-chunks.result.now c.args.self.now.list.items c.chunk_of.result c.index-chunks-chunk_of.result
    c.as_slice-chunks.ensures.value c.requires.order c.chunk_of.ensures c.index-chunks-chunk_of.is).0

pub returns : goal.returns
returns c = c.get.ensures ∙ (looked c.args.key.now c.as_slice-chunks.result.now c.args.self.now.list.items c.chunk_of.result c.index-chunks-chunk_of.result
    c.as_slice-chunks.ensures.value c.requires.order c.chunk_of.ensures c.index-chunks-chunk_of.is).1
