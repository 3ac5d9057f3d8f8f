use Rattle.std.proofs.Common.{◌+◌, arith}
use Rattle.unit_allocator.proofs.Runs.{gives_on}
use Rattle.unit_allocator.proofs.allocator.Allocator.give.Goals as goal

pub loop-unit-preserved : goal.loop-unit-preserved
loop-unit-preserved c =
    let s = gives_on c.args.self.now c.loop-unit.self c.give_one.new.self c.args.run.first (c.args.run.first + c.args.run.count) c.loop-unit.unit
    (omega (arith, c.loop-unit.auto.unit, c.number-first.ensures)) (omega (arith, c.loop-unit-test.true, c.number-first.ensures))
    (record {
      given_so_far = c.loop-unit.invariant.given_so_far;
      within = c.loop-unit.invariant.within;
      taken =
          c.loop-unit.invariant.taken;
    }) c.give_one.ensures in
    record { given_so_far = s.given_so_far; within = s.within; taken = s.taken }
