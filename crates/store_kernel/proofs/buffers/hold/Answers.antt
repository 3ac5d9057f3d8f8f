use Rattle.std.proofs.Common.{take, ◌∙◌}
use Rattle.write_buffers.specs.Prelude.{memory_in}
use Rattle.store_kernel.proofs.BufferLemmas.{holds_on, gone_again, front_absent}
use Rattle.store_kernel.proofs.buffers.hold.Goals as goal

pub returns-in-Err-clause-err : goal.returns-in-Err-clause-err
returns-in-Err-clause-err c =
    gone_again (take c.loop-i.i c.args.fresh.now) (memory_in c.args.buffers.now) (memory_in c.put.new.buffers) (memory_in c.let_go.new.buffers)
    (front_absent c.args.fresh.now (memory_in c.args.buffers.now) c.loop-i.i c.requires.absent)
    (λ unit. c.in-Err.ensures.err unit ∙ c.loop-i.invariant unit) c.let_go.ensures

pub loop-i-preserved : goal.loop-i-preserved
loop-i-preserved c =
    holds_on c.args.fresh.now (memory_in c.args.buffers.now) (memory_in c.loop-i.buffers) (memory_in c.put.new.buffers) c.loop-i.i c.index-fresh-i.result
    c.loop-i-test.true c.index-fresh-i.is c.requires.absent c.requires.ascend c.in-Ok.ensures.ok c.loop-i.invariant
