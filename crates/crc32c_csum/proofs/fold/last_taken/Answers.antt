use Rattle.std.proofs.Common.{ap, ◌∙◌, length, arith}
use Rattle.std.proofs.lemmas.Simd.{length-chunk}
use Rattle.crc32c_csum.proofs.Folding.{at_front, zeros_behind}
use Rattle.crc32c_csum.proofs.fold.last_taken.Goals as goal

pub returns-clause-same : goal.returns-clause-same
returns-clause-same c =
    at_front c.args.t c.args.taken.now c.last_before.result _ c.lay_over_front.new.bytes (omega (arith, c.told-taken, c.requires)) c.fits-taken
    c.last_before.ensures c.lay_over_front.ensures

pub returns-clause-zeros : goal.returns-clause-zeros
returns-clause-zeros c =
    zeros_behind c.last_before.result c.lay_over_front.new.bytes
    (ap (λ l. length l) c.last_before.ensures ∙ length-chunk c.args.t 290 c.args.taken.now (omega (arith, c.told-taken, c.requires))) c.lay_over_front.ensures
