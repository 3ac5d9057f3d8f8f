use Rattle.std.proofs.Common.{rules}
use Rattle.block_device.specs.Prelude.{noise}
use Rattle.block_device.proofs.image.noise_unit.Goals as goal

pub returns : goal.returns
unfolding noise
returns c = search rules
