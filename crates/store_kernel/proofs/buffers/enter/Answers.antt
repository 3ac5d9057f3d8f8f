use Rattle.std.proofs.Common.{◌≡◌, List, is_some, cond, None, ap, ◌∙◌}
use Rattle.plan_rows.specs.declared.plan.FreshUnit.{FreshUnit}
use Rattle.store_steps.specs.declared.context.Context.{Context}
use Rattle.store_steps.specs.Prelude.{bytes_in}
use Rattle.write_buffers.specs.Prelude.{memory_in}
use Rattle.store_kernel.proofs.BufferLemmas.{gone_again, all_absent}
use Rattle.store_kernel.proofs.buffers.enter.Goals as goal

pub returns-in-Err-clause-err : goal.returns-in-Err-clause-err
returns-in-Err-clause-err c =
    let fresh : c.fresh-in-Err.result.now ≡ c.args.context.fresh = c.fresh-in-Err.ensures ∙ ap (λ (x : Context). x.fresh) c.in-Err.ensures.back in
    gone_again c.args.context.fresh (memory_in c.args.buffers.now) (memory_in c.hold.new.buffers) (memory_in c.let_go.new.buffers)
    (all_absent c.args.context.fresh (memory_in c.args.buffers.now) c.requires.absent)
    (λ unit. rw c.fresh.ensures at c.in_ok-hold.ensures.ok unit)
    (λ unit. c.let_go.ensures unit ∙ ap (λ (fs : List FreshUnit). cond (is_some (bytes_in fs unit)) None (memory_in c.hold.new.buffers unit)) fresh)
