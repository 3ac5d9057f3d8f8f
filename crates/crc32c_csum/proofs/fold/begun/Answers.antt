use Rattle.std.proofs.Common.{refl, lit≤}
use Rattle.crc32c_csum.proofs.Folding.{begun}
use Rattle.crc32c_csum.proofs.fold.begun.Goals as goal

pub returns : goal.returns
returns c = begun 1550 c.args.r _ (lit≤ tt) c.ranges.r.fits refl
