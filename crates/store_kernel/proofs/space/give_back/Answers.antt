use Rattle.store_kernel.proofs.SpaceCalls.{can_give_item, gives_on}
use Rattle.store_kernel.proofs.space.give_back.Goals as goal

pub give-requires-clause-within : goal.give-requires-clause-within
give-requires-clause-within c =
    (can_give_item c.args.units.now c.loop-unit.space c.loop-unit.unit-index c.unit-item.result c.loop-unit-test.true c.unit-item.is c.loop-unit.invariant.can).within

pub give-requires-clause-taken : goal.give-requires-clause-taken
give-requires-clause-taken c =
    (can_give_item c.args.units.now c.loop-unit.space c.loop-unit.unit-index c.unit-item.result c.loop-unit-test.true c.unit-item.is c.loop-unit.invariant.can).taken

pub give-requires-clause-fits : goal.give-requires-clause-fits
give-requires-clause-fits c =
    (can_give_item c.args.units.now c.loop-unit.space c.loop-unit.unit-index c.unit-item.result c.loop-unit-test.true c.unit-item.is c.loop-unit.invariant.can).fits

pub loop-unit-preserved : goal.loop-unit-preserved
loop-unit-preserved c =
    let s = gives_on c.args.units.now c.args.space.now c.loop-unit.space c.give.new.self c.loop-unit.unit-index c.unit-item.result c.loop-unit-test.true
    c.unit-item.is c.give.ensures c.loop-unit.invariant.ahead c.loop-unit.invariant.can in
    record { ahead = s.ahead; can = s.can }
