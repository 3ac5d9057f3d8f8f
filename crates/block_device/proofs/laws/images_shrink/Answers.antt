use Rattle.block_device.proofs.LawLemmas.{images_shrink}
use Rattle.block_device.proofs.laws.images_shrink.Goals as goal

pub returns : goal.returns
returns c = images_shrink
