use Rattle.block_device.proofs.LawLemmas.{clean_one}
use Rattle.block_device.proofs.laws.clean_has_one_image.Goals as goal

pub returns : goal.returns
returns c = clean_one
