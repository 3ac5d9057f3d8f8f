use Rattle.block_device.proofs.LawLemmas.{write_dirties}
use Rattle.block_device.proofs.laws.write_dirties.Goals as goal

pub returns : goal.returns
returns c = write_dirties
