use Rattle.std.proofs.Common.{arith}
use Rattle.crc32c_csum.proofs.TableFacts.{after_is}
use Rattle.crc32c_csum.proofs.crc.after.Goals as goal

pub returns : goal.returns
returns c = after_is c.args.zeros c.args.byte c.requires (omega (arith, c.ranges.byte.fits))
