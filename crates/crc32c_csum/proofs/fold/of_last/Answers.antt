use Rattle.std.proofs.Common.{◌*◌, ap, ◌∙◌, drop, arith, le_antisymm}
use Rattle.std.specs.Int.Bits.{xor_zero_r}
use Rattle.std.specs.Prelude.{bit_xor}
use Rattle.crc32c_csum.specs.Prelude.{remainder, of_taken}
use Rattle.crc32c_csum.proofs.Folding.{all_done}
use Rattle.crc32c_csum.proofs.fold.of_last.Goals as goal

pub loop-i-init : goal.loop-i-init
loop-i-init c = ap (λ y. remainder y c.args.stay.now) (xor_zero_r (of_taken 0 c.args.last.now))

pub loop-i-preserved : goal.loop-i-preserved
loop-i-preserved c =
    ap (λ t. remainder (bit_xor (of_taken t c.args.last.now) c.after_stay-r.result) (drop t c.args.stay.now)) (omega arith)
    ∙ c.after_stay-r.ensures ∙ c.loop-i.invariant

pub returns : goal.returns
returns c =
    all_done c.loop-i.r c.args.last.now c.args.stay.now c.told-last c.fits-last c.requires.many c.requires.zeros
    ∙ ap (λ i. remainder (bit_xor (of_taken (16 * i) c.args.last.now) c.loop-i.r) (drop (16 * i) c.args.stay.now)) (le_antisymm c.loop-i-test.false c.loop-i.auto.i-end)
    ∙ c.loop-i.invariant
