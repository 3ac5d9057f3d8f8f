use Rattle.store_kernel.proofs.SpaceCalls.{takes_on}
use Rattle.store_kernel.proofs.space.take_fresh.Goals as goal

pub loop-one-preserved : goal.loop-one-preserved
loop-one-preserved c =
    let s = takes_on c.args.fresh.now c.args.space.now c.loop-one.space c.take_unit.new.self c.loop-one.one-index c.one-item.result c.loop-one-test.true
    c.one-item.is c.take_unit.ensures.one c.loop-one.invariant.ahead c.loop-one.invariant.can in
    record { ahead = s.ahead; can = s.can }
