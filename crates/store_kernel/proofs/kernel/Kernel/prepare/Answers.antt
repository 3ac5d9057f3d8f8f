use Rattle.std.proofs.Common.{ap, ◌∙◌}
use Rattle.meta_store.specs.Store.{room_of}
use Rattle.store_steps.specs.Prelude.{State}
use Rattle.run_facts.proofs.SwitchFootprints.{check_fits}
use Rattle.store_kernel.proofs.Admitting.{enough}
use Rattle.store_kernel.proofs.kernel.Kernel.prepare.Goals as goal

pub room-room-requires : goal.room-room-requires
room-room-requires g c =
    let same = rw (← c.self.view_is) at c.in_ok-plan.ensures.same in
    check_fits _ _ c.self.invariant.kept (ap (λ (s : State). s.down) same ∙ c.requires.can_note.up)

pub returns-then-room-need-clause-err : goal.returns-then-room-need-clause-err
returns-then-room-need-clause-err g c =
    let log = c.args.self.now.state.log in
    let planned = c.in_ok-plan.ensures.ok in
    let need = rw c.as_slice.ensures at c.units_needed-need.ensures in
    let same = rw (← c.self.view_is) at c.in_ok-plan.ensures.same in
    let room = c.room-room.ensures ∙ ap (λ (s : State). room_of s.log) same in (
      planned.not_refused,
      record { plan = c.in_ok-plan.plan; plans = planned.plans; read = planned.read; need_is = need log.number },
      room,
      c.if-room-need.true,
    )

pub returns-clause-ok : goal.returns-clause-ok
returns-clause-ok g c =
    let log = c.args.self.now.state.log in
    let need = rw c.as_slice.ensures at c.units_needed-need.ensures in
    let same = rw (← c.self.view_is) at c.in_ok-plan.ensures.same in
    let room = c.room-room.ensures ∙ ap (λ (s : State). room_of s.log) same in
    record {
      plan = c.in_ok-plan.ensures.ok;
      need = need log.number;
      fits = enough log c.in_ok-plan.plan c.units_needed-need.result c.room-room.result (need log.number) room c.if-room-need.false;
      copy = c.in_ok-copy.ensures;
      coll = c.in_ok-coll.ensures ∙ c.coll.ensures;
    }
