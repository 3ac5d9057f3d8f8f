use Rattle.std.proofs.Common.{drop, arith}
use Rattle.crc32c_csum.proofs.Folding.{at_front}
use Rattle.crc32c_csum.proofs.fold.move_to_front.Goals as goal

pub returns : goal.returns
returns c =
    at_front c.args.t c.args.taken.now c.last_before-last.result (drop 290 c.args.taken.now) c.lay_over_front.new.bytes (omega (arith, c.told-taken, c.requires)) c.fits-taken
    c.last_before-last.ensures c.lay_over_front.ensures
