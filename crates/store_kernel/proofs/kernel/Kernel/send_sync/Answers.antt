use Rattle.std.proofs.Common.{refl, sym, ◌∙◌}
use Rattle.store_steps.specs.declared.step.Step.TheVariants.{Sync}
use Rattle.run_facts.proofs.Prelude.{known_sync_room}
use Rattle.store_kernel.proofs.Keeping.{known_step}
use Rattle.store_kernel.proofs.Stages.{stage_second}
use Rattle.store_kernel.proofs.Sending.{sync_does}
use Rattle.store_kernel.proofs.Memories.{sync_memory}
use Rattle.store_kernel.proofs.kernel.Kernel.send_sync.Goals as goal

pub submit_flush-requires : goal.submit_flush-requires
submit_flush-requires g c =
    let ready = rw (← c.self.view_is) at c.requires in
    known_sync_room _ _ c.self.invariant.kept ready

pub invariant_of-self-2 : goal.invariant_of-self-2
invariant_of-self-2 g c =
    let k = c.self.inside in
    let ready = rw (← c.self.view_is) at c.requires in
    let does = sync_does _ _ _ k.batch c.in-Ok.ticket ready refl c.in-Ok.ensures.ok in
    rw (c.set_second.ensures, c.push_reserved.ensures.items, c.reserve.ensures.items)
    (known_step Sync _ _ _ _ _ _ _ _ c.self.invariant ready does c.submit_flush.ensures.sound (stage_second _ k.meta.begun k.batch c.self.invariant.stage)
    (c.self.invariant.memory ∙ sym (sync_memory _ _ _ _ does)))

pub returns-clause-ok : goal.returns-clause-ok
returns-clause-ok g c =
    let k = c.self.inside in
    let ready = rw (← c.self.view_is) at c.requires in
    rw (c.set_second.ensures, c.push_reserved.ensures.items, c.reserve.ensures.items, ← c.self.view_is)
    (sync_does _ _ _ k.batch c.in-Ok.ticket ready refl c.in-Ok.ensures.ok)
