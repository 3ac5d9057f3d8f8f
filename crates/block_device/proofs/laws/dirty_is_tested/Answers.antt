use Rattle.block_device.proofs.LawLemmas.{dirty_tested}
use Rattle.block_device.proofs.laws.dirty_is_tested.Goals as goal

pub returns : goal.returns
returns c = dirty_tested
