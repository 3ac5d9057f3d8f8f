use Rattle.block_device.proofs.LawLemmas.{flush_cleans}
use Rattle.block_device.proofs.laws.flush_cleans.Goals as goal

pub returns : goal.returns
returns c = flush_cleans
