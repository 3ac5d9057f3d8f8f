use Rattle.std.proofs.Common.{◌≡◌, ◌+◌, ◌*◌, ◌-◌, take, drop, ap, ◌∙◌, arith}
use Rattle.fsck_check.proofs.Adding.{unit_is}
use Rattle.fsck_check.proofs.sums.unit_of.Goals as goal

pub returns : goal.returns
returns c =
    let long : 4096 * c.args.i + 4096 - 4096 * c.args.i ≡ 4096 = omega arith in
    ap (λ n. take n (drop (4096 * c.args.i) c.args.bytes.now)) long ∙ unit_is c.args.i c.args.bytes.now
