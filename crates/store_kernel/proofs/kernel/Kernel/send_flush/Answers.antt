use Rattle.std.proofs.Common.{refl, sym, ◌∙◌}
use Rattle.store_steps.specs.declared.step.Step.TheVariants.{Flush}
use Rattle.run_facts.proofs.Prelude.{known_flush_room}
use Rattle.store_kernel.proofs.Keeping.{known_step}
use Rattle.store_kernel.proofs.Stages.{stage_first}
use Rattle.store_kernel.proofs.Sending.{flush_does}
use Rattle.store_kernel.proofs.Memories.{flush_memory}
use Rattle.store_kernel.proofs.kernel.Kernel.send_flush.Goals as goal

pub submit_flush-requires : goal.submit_flush-requires
submit_flush-requires g c =
    let ready = rw (← c.self.view_is) at c.requires in
    known_flush_room _ _ c.self.invariant.kept ready

pub invariant_of-self-2 : goal.invariant_of-self-2
invariant_of-self-2 g c =
    let k = c.self.inside in
    let ready = rw (← c.self.view_is) at c.requires in
    let does = flush_does _ _ _ k.batch c.in-Ok.ticket ready refl c.in-Ok.ensures.ok in
    rw (c.set_first.ensures, c.push_reserved.ensures.items, c.reserve.ensures.items)
    (known_step Flush _ _ _ _ _ _ _ _ c.self.invariant ready does c.submit_flush.ensures.sound (stage_first _ k.meta.begun k.batch c.self.invariant.stage)
    (c.self.invariant.memory ∙ sym (flush_memory _ _ _ _ does)))

pub returns-clause-ok : goal.returns-clause-ok
returns-clause-ok g c =
    let k = c.self.inside in
    let ready = rw (← c.self.view_is) at c.requires in
    rw (c.set_first.ensures, c.push_reserved.ensures.items, c.reserve.ensures.items, ← c.self.view_is)
    (flush_does _ _ _ k.batch c.in-Ok.ticket ready refl c.in-Ok.ensures.ok)
