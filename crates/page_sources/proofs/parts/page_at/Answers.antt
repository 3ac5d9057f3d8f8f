use Rattle.std.proofs.Common.{◌≡◌, ◌+◌, ◌-◌, ◌*◌, ap, take, drop, arith}
use Rattle.byte_maps.specs.Units.{unit_at}
use Rattle.page_sources.proofs.parts.page_at.Goals as goal

pub returns : goal.returns
unfolding unit_at
returns c =
    let whole : 4096 * c.args.i + 4096 - 4096 * c.args.i ≡ 4096 = omega arith in
    ap (λ n. take n (drop (4096 * c.args.i) c.args.bytes.now)) whole
