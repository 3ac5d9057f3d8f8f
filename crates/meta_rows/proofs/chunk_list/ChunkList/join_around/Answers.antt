use Rattle.meta_rows.proofs.ChunkLemmas.{rearranged_twice}
use Rattle.meta_rows.proofs.chunk_list.ChunkList.join_around.Goals as goal

pub returns : goal.returns
returns c = rearranged_twice _ _ _ c.join_if_few.ensures c.join_if_few-2.ensures
