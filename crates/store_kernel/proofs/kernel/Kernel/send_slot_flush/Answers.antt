use Rattle.std.proofs.Common.{sym, ap, ◌∙◌}
use Rattle.store_steps.specs.declared.step.Step.TheVariants.{SlotFlush}
use Rattle.store_steps.specs.Prelude.{memory_of}
use Rattle.store_kernel.proofs.Keeping.{known_step}
use Rattle.store_kernel.proofs.HalfSteps.{slot_flush_room, slot_flush_does}
use Rattle.store_kernel.proofs.kernel.Kernel.send_slot_flush.Goals as goal

pub submit_flush-requires : goal.submit_flush-requires
submit_flush-requires g c =
    let ready = rw (← c.self.view_is) at c.requires in
    slot_flush_room _ _ c.self.invariant.kept ready

pub invariant_of-self-2 : goal.invariant_of-self-2
invariant_of-self-2 g c =
    let ready = rw (← c.self.view_is) at c.requires in
    let does = slot_flush_does _ _ _ c.in-Ok.ticket ready c.in-Ok.ensures.ok in
    rw (c.set_slot_flush.ensures, c.push_reserved.ensures.items, c.reserve.ensures.items)
    (known_step SlotFlush _ _ _ _ _ _ _ _ c.self.invariant ready does c.submit_flush.ensures.sound c.self.invariant.stage
    (c.self.invariant.memory ∙ sym (ap memory_of does.after)))

pub returns-clause-ok : goal.returns-clause-ok
returns-clause-ok g c =
    let ready = rw (← c.self.view_is) at c.requires in
    rw (c.set_slot_flush.ensures, c.push_reserved.ensures.items, c.reserve.ensures.items, ← c.self.view_is)
    (slot_flush_does _ _ _ c.in-Ok.ticket ready c.in-Ok.ensures.ok)
