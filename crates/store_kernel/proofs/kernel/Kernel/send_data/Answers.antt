use Rattle.std.proofs.Common.{sym, subst, ◌∙◌, ℕ}
use Rattle.block_device.specs.Prelude.{Submitted}
use Rattle.block_device.specs.declared.event.Event.TheVariants.{Write}
use Rattle.store_steps.specs.declared.step.Step.TheVariants.{Data}
use Rattle.store_kernel.proofs.Keeping.{known_step}
use Rattle.store_kernel.proofs.Sending.{can_write_data, is_of_next, data_does}
use Rattle.store_kernel.proofs.Memories.{data_memory}
use Rattle.store_kernel.proofs.kernel.Kernel.send_data.Goals as goal

pub submit_write-requires-clause-room : goal.submit_write-requires-clause-room
submit_write-requires-clause-room g c =
    let ready = rw (← c.self.view_is) at c.requires in
    (can_write_data _ _ c.in-Ok.write c.self.invariant.kept ready c.in-Ok.ensures).room

pub submit_write-requires-clause-some : goal.submit_write-requires-clause-some
submit_write-requires-clause-some g c =
    let ready = rw (← c.self.view_is) at c.requires in
    (can_write_data _ _ c.in-Ok.write c.self.invariant.kept ready c.in-Ok.ensures).some

pub submit_write-requires-clause-few : goal.submit_write-requires-clause-few
submit_write-requires-clause-few g c =
    let ready = rw (← c.self.view_is) at c.requires in
    (can_write_data _ _ c.in-Ok.write c.self.invariant.kept ready c.in-Ok.ensures).few

pub submit_write-requires-clause-whole : goal.submit_write-requires-clause-whole
submit_write-requires-clause-whole g c =
    let ready = rw (← c.self.view_is) at c.requires in
    (can_write_data _ _ c.in-Ok.write c.self.invariant.kept ready c.in-Ok.ensures).whole

pub submit_write-requires-clause-inside : goal.submit_write-requires-clause-inside
submit_write-requires-clause-inside g c =
    let ready = rw (← c.self.view_is) at c.requires in
    rw c.number.ensures (can_write_data _ _ c.in-Ok.write c.self.invariant.kept ready c.in-Ok.ensures).inside

pub submit_write-requires-clause-free : goal.submit_write-requires-clause-free
submit_write-requires-clause-free g c =
    let ready = rw (← c.self.view_is) at c.requires in
    rw c.number.ensures (can_write_data _ _ c.in-Ok.write c.self.invariant.kept ready c.in-Ok.ensures).free

pub submitted-requires : goal.submitted-requires
submitted-requires g c = is_of_next c.self.inside.contexts c.in-Ok.write c.in-Ok.ensures

pub invariant_of-self-2 : goal.invariant_of-self-2
invariant_of-self-2 g c =
    let k = c.self.inside in
    let ready = rw (← c.self.view_is) at c.requires in
    let sent = subst (λ (u : ℕ). Submitted (g.D.Device.disk k.device) c.in-Ok-submit_write.ticket.place (Write u c.in-Ok.write.bytes.items) (g.D.Device.disk c.submit_write.new.self))
    c.number.ensures c.in-Ok-submit_write.ensures.ok in
    let does = data_does _ _ _ c.in-Ok.write c.in-Ok-submit_write.ticket c.in-Ok.ensures sent in
    rw (c.submitted.ensures, c.push_reserved.ensures.items, c.reserve.ensures.items)
    (known_step Data _ _ _ _ _ _ _ _ c.self.invariant ready does c.submit_write.ensures.sound c.self.invariant.stage
    (c.self.invariant.memory ∙ sym (data_memory _ _ _ _ does)))

pub returns-clause-ok : goal.returns-clause-ok
returns-clause-ok g c =
    let k = c.self.inside in
    let sent = subst (λ (u : ℕ). Submitted (g.D.Device.disk k.device) c.in-Ok-submit_write.ticket.place (Write u c.in-Ok.write.bytes.items) (g.D.Device.disk c.submit_write.new.self))
    c.number.ensures c.in-Ok-submit_write.ensures.ok in
    rw (c.submitted.ensures, c.push_reserved.ensures.items, c.reserve.ensures.items, ← c.self.view_is)
    (data_does _ _ _ c.in-Ok.write c.in-Ok-submit_write.ticket c.in-Ok.ensures sent)
