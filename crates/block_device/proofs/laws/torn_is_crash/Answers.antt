use Rattle.block_device.proofs.ImageLemmas.{torn_is_crash}
use Rattle.block_device.proofs.laws.torn_is_crash.Goals as goal

pub returns : goal.returns
returns c = torn_is_crash
