use Rattle.std.proofs.Common.{◌∙◌, arith, le_antisymm}
use Rattle.crc32c_csum.proofs.ByBits.{one_bit, no_bit, a_bit, all_bits}
use Rattle.crc32c_csum.proofs.behind.behind_page.Goals.{then-left-eq1, else-left-eq1}
use Rattle.crc32c_csum.proofs.behind.behind_page.Goals as goal

pub loop-i-preserved : goal.loop-i-preserved
loop-i-preserved c =
    one_bit c.loop-i.i c.loop-i.left c.loop-i.all c.if-left-eq1.all c.args.r
    (elim c.if-left-eq1.branch [
      | then-left-eq1 w ↦ w.all-is ∙ a_bit c.loop-i.i c.loop-i.left c.loop-i.all c.loop-i-test.true w.if-left-eq1.true
      | else-left-eq1 w ↦ w.all-is ∙ no_bit c.loop-i.i c.loop-i.left c.loop-i.all (omega (arith, w.if-left-eq1.false))
    ])
    c.loop-i.invariant.0 c.loop-i.invariant.1

pub returns : goal.returns
returns c = all_bits c.loop-i.i c.loop-i.left c.loop-i.all c.args.r (le_antisymm c.loop-i.auto.i-end c.loop-i-test.false) c.loop-i.invariant.0 c.loop-i.invariant.1
