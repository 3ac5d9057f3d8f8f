use Rattle.std.proofs.Common.{arith}
use Rattle.crc32c_csum.proofs.Folding.{stays, sixteen_zeros}
use Rattle.crc32c_csum.proofs.fold.after_stay.Goals as goal

pub returns : goal.returns
returns c =
    stays c.args.t c.args.r c.after_sixteen.result c.args.last.now c.args.stay.now c.with_put_on.result (omega arith) (omega arith) c.with_put_on.ensures
    (sixteen_zeros c.args.t c.args.last.now c.requires.room c.requires.zeros) c.after_sixteen.ensures
