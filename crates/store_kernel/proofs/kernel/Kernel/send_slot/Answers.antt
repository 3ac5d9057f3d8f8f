use Rattle.std.proofs.Common.{sym, ap, subst, ◌∙◌, ℕ}
use Rattle.block_device.specs.Prelude.{Submitted}
use Rattle.block_device.specs.declared.event.Event.TheVariants.{Write}
use Rattle.store_steps.specs.declared.step.Step.TheVariants.{SlotWrite}
use Rattle.store_steps.specs.Prelude.{memory_of}
use Rattle.store_kernel.proofs.Keeping.{known_step}
use Rattle.store_kernel.proofs.HalfSteps.{IsNextSlot, slot_limits, can_write_slot, slot_does}
use Rattle.store_kernel.proofs.kernel.Kernel.send_slot.Goals as goal

pub next_slot-requires : goal.next_slot-requires
next_slot-requires g c = slot_limits _ _ c.self.invariant.kept

pub submit_write-requires-clause-room : goal.submit_write-requires-clause-room
submit_write-requires-clause-room g c =
    let ready = rw (← c.self.view_is) at c.requires in
    let next : IsNextSlot c.self.inside.meta c.in-Ok.slot.0 c.in-Ok.slot.1.items =
    record { unit_is = c.in-Ok.ensures.unit; bytes_are = c.in-Ok.ensures.bytes; size = c.in-Ok.ensures.size } in
    (can_write_slot _ _ c.in-Ok.slot.0 c.in-Ok.slot.1.items c.self.invariant.kept ready next).room

pub submit_write-requires-clause-inside : goal.submit_write-requires-clause-inside
submit_write-requires-clause-inside g c =
    let ready = rw (← c.self.view_is) at c.requires in
    let next : IsNextSlot c.self.inside.meta c.in-Ok.slot.0 c.in-Ok.slot.1.items =
    record { unit_is = c.in-Ok.ensures.unit; bytes_are = c.in-Ok.ensures.bytes; size = c.in-Ok.ensures.size } in
    rw c.number.ensures (can_write_slot _ _ c.in-Ok.slot.0 c.in-Ok.slot.1.items c.self.invariant.kept ready next).inside

pub submit_write-requires-clause-free : goal.submit_write-requires-clause-free
submit_write-requires-clause-free g c =
    let ready = rw (← c.self.view_is) at c.requires in
    let next : IsNextSlot c.self.inside.meta c.in-Ok.slot.0 c.in-Ok.slot.1.items =
    record { unit_is = c.in-Ok.ensures.unit; bytes_are = c.in-Ok.ensures.bytes; size = c.in-Ok.ensures.size } in
    rw c.number.ensures (can_write_slot _ _ c.in-Ok.slot.0 c.in-Ok.slot.1.items c.self.invariant.kept ready next).free

pub invariant_of-self-2 : goal.invariant_of-self-2
invariant_of-self-2 g c =
    let k = c.self.inside in
    let ready = rw (← c.self.view_is) at c.requires in
    let next : IsNextSlot k.meta c.in-Ok.slot.0 c.in-Ok.slot.1.items =
    record { unit_is = c.in-Ok.ensures.unit; bytes_are = c.in-Ok.ensures.bytes; size = c.in-Ok.ensures.size } in
    let sent = subst (λ (u : ℕ). Submitted (g.D.Device.disk k.device) c.in-Ok-submit_write.ticket.place (Write u c.in-Ok.slot.1.items) (g.D.Device.disk c.submit_write.new.self))
    c.number.ensures c.in-Ok-submit_write.ensures.ok in
    let does = slot_does _ _ _ c.in-Ok.slot.0 c.in-Ok.slot.1.items c.in-Ok-submit_write.ticket ready next sent in
    rw (c.set_slot.ensures, c.push_reserved.ensures.items, c.reserve.ensures.items)
    (known_step SlotWrite _ _ _ _ _ _ _ _ c.self.invariant ready does c.submit_write.ensures.sound c.self.invariant.stage
    (c.self.invariant.memory ∙ sym (ap memory_of does.after)))

pub returns-clause-ok : goal.returns-clause-ok
returns-clause-ok g c =
    let k = c.self.inside in
    let ready = rw (← c.self.view_is) at c.requires in
    let next : IsNextSlot k.meta c.in-Ok.slot.0 c.in-Ok.slot.1.items =
    record { unit_is = c.in-Ok.ensures.unit; bytes_are = c.in-Ok.ensures.bytes; size = c.in-Ok.ensures.size } in
    let sent = subst (λ (u : ℕ). Submitted (g.D.Device.disk k.device) c.in-Ok-submit_write.ticket.place (Write u c.in-Ok.slot.1.items) (g.D.Device.disk c.submit_write.new.self))
    c.number.ensures c.in-Ok-submit_write.ensures.ok in
    rw (c.set_slot.ensures, c.push_reserved.ensures.items, c.reserve.ensures.items, ← c.self.view_is)
    (slot_does _ _ _ c.in-Ok.slot.0 c.in-Ok.slot.1.items c.in-Ok-submit_write.ticket ready next sent)
