use Rattle.std.proofs.Common.{refl, sym, subst, ◌∙◌, ℕ}
use Rattle.block_device.specs.Prelude.{Submitted}
use Rattle.block_device.specs.declared.event.Event.TheVariants.{Write}
use Rattle.store_steps.specs.declared.step.Step.TheVariants.{Record}
use Rattle.store_kernel.proofs.Keeping.{known_step}
use Rattle.store_kernel.proofs.Stages.{stage_given}
use Rattle.store_kernel.proofs.Memories.{record_memory}
use Rattle.store_kernel.proofs.Sending.{can_write_record, record_does}
use Rattle.store_kernel.proofs.kernel.Kernel.send_record.Goals as goal

pub submit_write-requires-clause-room : goal.submit_write-requires-clause-room
submit_write-requires-clause-room g c =
    let ready = rw (← c.self.view_is) at c.requires in
    let next = rw c.in-Some.is at c.in-Ok.ensures.next in
    let place = rw c.in-Some.is at c.in-Ok.ensures.place in
    (can_write_record _ _ c.self.inside.meta c.in-Some.piece.0 c.in-Some.piece.1.items c.self.invariant.kept ready refl next place).room

pub submit_write-requires-clause-inside : goal.submit_write-requires-clause-inside
submit_write-requires-clause-inside g c =
    let ready = rw (← c.self.view_is) at c.requires in
    let next = rw c.in-Some.is at c.in-Ok.ensures.next in
    let place = rw c.in-Some.is at c.in-Ok.ensures.place in
    rw c.number.ensures
    (can_write_record _ _ c.self.inside.meta c.in-Some.piece.0 c.in-Some.piece.1.items c.self.invariant.kept ready refl next place).inside

pub submit_write-requires-clause-free : goal.submit_write-requires-clause-free
submit_write-requires-clause-free g c =
    let ready = rw (← c.self.view_is) at c.requires in
    let next = rw c.in-Some.is at c.in-Ok.ensures.next in
    let place = rw c.in-Some.is at c.in-Ok.ensures.place in
    rw c.number.ensures
    (can_write_record _ _ c.self.inside.meta c.in-Some.piece.0 c.in-Some.piece.1.items c.self.invariant.kept ready refl next place).free

pub invariant_of-self-2 : goal.invariant_of-self-2
invariant_of-self-2 g c =
    let k = c.self.inside in
    let ready = rw (← c.self.view_is) at c.requires in
    let next = rw c.in-Some.is at c.in-Ok.ensures.next in
    let sent = subst (λ (u : ℕ). Submitted (g.D.Device.disk k.device) c.in-Ok-submit_write.ticket.place (Write u c.in-Some.piece.1.items) (g.D.Device.disk c.submit_write.new.self))
    c.number.ensures c.in-Ok-submit_write.ensures.ok in
    let does = record_does _ _ _ k.meta c.in-Some.piece.0 c.in-Some.piece.1.items c.in-Ok-submit_write.ticket refl next sent in
    rw (c.note_given.ensures, c.push_reserved.ensures.items, c.reserve.ensures.items)
    (known_step Record _ _ _ _ _ _ _ _ c.self.invariant ready does c.submit_write.ensures.sound (stage_given k.meta k.batch c.self.invariant.stage)
    (c.self.invariant.memory ∙ sym (record_memory _ _ _ _ does)))

pub returns-clause-ok : goal.returns-clause-ok
returns-clause-ok g c =
    let k = c.self.inside in
    let next = rw c.in-Some.is at c.in-Ok.ensures.next in
    let sent = subst (λ (u : ℕ). Submitted (g.D.Device.disk k.device) c.in-Ok-submit_write.ticket.place (Write u c.in-Some.piece.1.items) (g.D.Device.disk c.submit_write.new.self))
    c.number.ensures c.in-Ok-submit_write.ensures.ok in
    rw (c.note_given.ensures, c.push_reserved.ensures.items, c.reserve.ensures.items, ← c.self.view_is)
    (record_does _ _ _ k.meta c.in-Some.piece.0 c.in-Some.piece.1.items c.in-Ok-submit_write.ticket refl next sent)
