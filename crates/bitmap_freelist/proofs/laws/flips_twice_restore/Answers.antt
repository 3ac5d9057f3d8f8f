use Rattle.bitmap_freelist.proofs.Turning.{twice_restore}
use Rattle.bitmap_freelist.proofs.laws.flips_twice_restore.Goals as goal

pub returns : goal.returns
returns c = twice_restore
