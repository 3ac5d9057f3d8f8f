use Rattle.std.proofs.Common.{arith, ◌∙◌, ap}
use Rattle.unit_allocator.specs.Prelude.{taken_one}
use Rattle.unit_allocator.proofs.Runs.{takes_on}
use Rattle.unit_allocator.proofs.allocator.Allocator.take.Goals as goal

pub loop-preserved : goal.loop-preserved
loop-preserved c =
    let s = takes_on c.args.self.now c.loop.self c.take_one.new.self _ _ c.in-Some.unit c.loop.counter
    c.loop.invariant.units c.loop.invariant.counted c.loop.invariant.taken_so_far
    c.in-Some.ensures.lowest (c.take_one.ensures ∙ ap (λ t. taken_one t c.in-Some.unit) c.in-Some.ensures.same) c.add_unit.ensures.units in
    record { units = s.units; counted = s.counted; taken_so_far = s.taken_so_far; few = omega arith; room = omega arith }
