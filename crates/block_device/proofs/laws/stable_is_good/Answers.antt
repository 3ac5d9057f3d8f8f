use Rattle.block_device.proofs.LawLemmas.{stable_is_good}
use Rattle.block_device.proofs.laws.stable_is_good.Goals as goal

pub returns : goal.returns
returns c = stable_is_good
