use Rattle.std.proofs.Common.{◌+◌, ◌-◌, arith}
use Rattle.crc32c_csum.proofs.Folding.{taken_out}
use Rattle.crc32c_csum.proofs.fold.take_out.Goals as goal

pub returns : goal.returns
returns c =
    taken_out c.args.t (c.args.t + 290 + 16 - (c.args.t + 290)) c.args.taken.now c.args.bytes.now c.with_put_on-out.result
    (omega arith) (omega arith) (omega arith) c.with_put_on-out.ensures
