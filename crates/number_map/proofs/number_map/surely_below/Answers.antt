use Rattle.std.proofs.Common.{◌≡◌, ◌+◌, ◌-◌, length, arith, subst}
use Rattle.number_map.specs.NumberMap.{IsFront}
use Rattle.number_map.proofs.Search.{front_more}
use Rattle.number_map.proofs.number_map.surely_below.Goals as goal

pub returns-then-entries-count-clause-front : goal.returns-then-entries-count-clause-front
returns-then-entries-count-clause-front g c =
    let last : length c.args.entries.now - 1 + 1 ≡ length c.args.entries.now = omega arith in
    subst (λ n. IsFront c.args.key n c.args.entries.now) last
    (front_more c.args.key c.args.entries.now (length c.args.entries.now - 1) c.index-entries-count.result c.requires (omega arith) c.if-entries-count.true)
