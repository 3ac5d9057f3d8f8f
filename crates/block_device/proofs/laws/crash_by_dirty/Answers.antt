use Rattle.block_device.proofs.LawLemmas.{crash_by_dirty}
use Rattle.block_device.proofs.laws.crash_by_dirty.Goals as goal

pub returns : goal.returns
returns c = crash_by_dirty
