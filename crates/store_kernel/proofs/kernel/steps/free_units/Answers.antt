use Rattle.std.proofs.Common.{ap, ◌∙◌}
use Rattle.unit_allocator.specs.Prelude.{given}
use Rattle.write_buffers.specs.Prelude.{memory_in}
use Rattle.store_kernel.proofs.SpaceCalls.{can_give_context, frees_on}
use Rattle.store_kernel.proofs.BufferLemmas.{lets_go}
use Rattle.store_kernel.proofs.kernel.steps.free_units.Goals as goal

pub give_back-requires : goal.give_back-requires
give_back-requires c = rw c.released.ensures
    (can_give_context c.args.queued.now c.loop-one.space c.loop-one.one-index c.one-item.result c.loop-one-test.true c.one-item.is c.loop-one.invariant.can)

pub loop-one-preserved : goal.loop-one-preserved
loop-one-preserved c =
    let s = frees_on c.args.queued.now c.args.space.now c.loop-one.space c.give_back.new.space c.loop-one.one-index c.one-item.result c.loop-one-test.true
    c.one-item.is (c.give_back.ensures ∙ ap (given c.loop-one.space) c.released.ensures) c.loop-one.invariant.ahead c.loop-one.invariant.can in
    record {
      ahead = s.ahead;
      can = s.can;
      gone = lets_go c.args.queued.now (memory_in c.args.buffers.now) (memory_in c.loop-one.buffers) (memory_in c.let_go.new.buffers) c.loop-one.one-index
          c.one-item.result c.loop-one-test.true c.one-item.is (rw c.fresh.ensures at c.let_go.ensures) c.loop-one.invariant.gone;
    }
