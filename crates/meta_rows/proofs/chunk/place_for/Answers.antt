use Rattle.std.proofs.Common.{arith}
use Rattle.meta_rows.proofs.ChunkLemmas.{past_all}
use Rattle.meta_rows.proofs.chunk.place_for.Goals as goal

pub returns-in-Less : goal.returns-in-Less
returns-in-Less c = (omega arith, past_all c.args.key.now c.args.entries.now (c.last_order.ensures.less c.in-Less.is))
