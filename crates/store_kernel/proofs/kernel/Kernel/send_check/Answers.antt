use Rattle.std.proofs.Common.{sym, ap, subst, ◌∙◌, ℕ}
use Rattle.block_device.specs.Prelude.{Submitted}
use Rattle.block_device.specs.declared.event.Event.TheVariants.{Write}
use Rattle.store_steps.specs.declared.step.Step.TheVariants.{CheckWrite}
use Rattle.store_steps.specs.Prelude.{memory_of}
use Rattle.store_kernel.proofs.Keeping.{known_step}
use Rattle.store_kernel.proofs.HalfSteps.{can_write_check, check_does}
use Rattle.store_kernel.proofs.kernel.Kernel.send_check.Goals as goal

pub submit_write-requires-clause-room : goal.submit_write-requires-clause-room
submit_write-requires-clause-room g c =
    let ready = rw (← c.self.view_is) at c.requires in
    let next = rw c.in-Some.is at c.in-Ok.ensures.next in
    let place = rw c.in-Some.is at c.in-Ok.ensures.place in
    (can_write_check _ _ c.in-Some.piece.unit c.in-Some.piece.bytes.items c.self.invariant.kept ready next place).room

pub submit_write-requires-clause-inside : goal.submit_write-requires-clause-inside
submit_write-requires-clause-inside g c =
    let ready = rw (← c.self.view_is) at c.requires in
    let next = rw c.in-Some.is at c.in-Ok.ensures.next in
    let place = rw c.in-Some.is at c.in-Ok.ensures.place in
    rw c.number.ensures
    (can_write_check _ _ c.in-Some.piece.unit c.in-Some.piece.bytes.items c.self.invariant.kept ready next place).inside

pub submit_write-requires-clause-free : goal.submit_write-requires-clause-free
submit_write-requires-clause-free g c =
    let ready = rw (← c.self.view_is) at c.requires in
    let next = rw c.in-Some.is at c.in-Ok.ensures.next in
    let place = rw c.in-Some.is at c.in-Ok.ensures.place in
    rw c.number.ensures
    (can_write_check _ _ c.in-Some.piece.unit c.in-Some.piece.bytes.items c.self.invariant.kept ready next place).free

pub invariant_of-self-2 : goal.invariant_of-self-2
invariant_of-self-2 g c =
    let k = c.self.inside in
    let ready = rw (← c.self.view_is) at c.requires in
    let next = rw c.in-Some.is at c.in-Ok.ensures.next in
    let place = rw c.in-Some.is at c.in-Ok.ensures.place in
    let sent = subst (λ (u : ℕ). Submitted (g.D.Device.disk k.device) c.in-Ok-submit_write.ticket.place (Write u c.in-Some.piece.bytes.items) (g.D.Device.disk c.submit_write.new.self))
    c.number.ensures c.in-Ok-submit_write.ensures.ok in
    let does = check_does _ _ _ c.in-Some.piece.unit c.in-Some.piece.bytes.items c.in-Ok-submit_write.ticket next place sent in
    rw (c.note_check_given.ensures, c.push_reserved.ensures.items, c.reserve.ensures.items)
    (known_step CheckWrite _ _ _ _ _ _ _ _ c.self.invariant ready does c.submit_write.ensures.sound c.self.invariant.stage
    (c.self.invariant.memory ∙ sym (ap memory_of does.after)))

pub returns-clause-ok : goal.returns-clause-ok
returns-clause-ok g c =
    let k = c.self.inside in
    let next = rw c.in-Some.is at c.in-Ok.ensures.next in
    let place = rw c.in-Some.is at c.in-Ok.ensures.place in
    let sent = subst (λ (u : ℕ). Submitted (g.D.Device.disk k.device) c.in-Ok-submit_write.ticket.place (Write u c.in-Some.piece.bytes.items) (g.D.Device.disk c.submit_write.new.self))
    c.number.ensures c.in-Ok-submit_write.ensures.ok in
    rw (c.note_check_given.ensures, c.push_reserved.ensures.items, c.reserve.ensures.items, ← c.self.view_is)
    (check_does _ _ _ c.in-Some.piece.unit c.in-Some.piece.bytes.items c.in-Ok-submit_write.ticket next place sent)
