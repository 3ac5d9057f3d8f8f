use Rattle.crc32c_csum.proofs.Linear.{one_more}
use Rattle.crc32c_csum.proofs.crc.after_one.Goals as goal

pub returns : goal.returns
returns c = rw c.after.ensures (one_more c.args.r c.args.byte)
