use Rattle.std.proofs.Common.{None, sym, subst}
use Rattle.std.proofs.Math.Path.{fun_ext}
use Rattle.store_steps.specs.Prelude.{State}
use Rattle.store_kernel.specs.Known.{KnownOfKernel}
use Rattle.store_kernel.proofs.Opening.{opened_is}
use Rattle.store_kernel.proofs.kernel.Kernel.open.Goals as goal

pub invariant_of-result : goal.invariant_of-result
invariant_of-result g c =
    let e = opened_is c.args.meta c.args.submitted.rows c.new.result c.new-3.result.items c.new-4.result.items c.new-5.result.items c.args.space c.args.next_sbid c.args.events
    c.requires.fresh c.requires.submitted c.new.ensures c.new-3.ensures.items c.new-4.ensures.items c.new-5.ensures.items in
    subst (λ (s : State). KnownOfKernel c.new-2.result None s (g.D.Device.disk c.args.device)) (sym e)
    (record { kept = c.requires.kept; durable = c.requires.durable; stage = tt; memory = fun_ext c.new-2.ensures })

pub returns-clause-state : goal.returns-clause-state
returns-clause-state g c =
    opened_is c.args.meta c.args.submitted.rows c.new.result c.new-3.result.items c.new-4.result.items c.new-5.result.items c.args.space c.args.next_sbid c.args.events
    c.requires.fresh c.requires.submitted c.new.ensures c.new-3.ensures.items c.new-4.ensures.items c.new-5.ensures.items
