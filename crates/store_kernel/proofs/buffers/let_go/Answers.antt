use Rattle.write_buffers.specs.Prelude.{memory_in}
use Rattle.store_kernel.proofs.BufferLemmas.{goes_on}
use Rattle.store_kernel.proofs.buffers.let_go.Goals as goal

pub loop-one-preserved : goal.loop-one-preserved
loop-one-preserved c =
    goes_on c.args.fresh.now (memory_in c.args.buffers.now) (memory_in c.loop-one.buffers) (memory_in c.remove.new.self) c.loop-one.one-index c.one-item.result
    c.loop-one-test.true c.one-item.is (rw c.number.ensures at c.remove.ensures) c.loop-one.invariant
