use Rattle.write_buffers.specs.Prelude.{memory_in}
use Rattle.txn_planner.specs.Drafts.{places_in}
use Rattle.store_kernel.specs.Submitting.{cause_of_plan, cause_of_read, IsCauseOf}
use Rattle.store_kernel.proofs.Admitting.{rows_of_width, given, planned_keeps, planned_short, no_draft, not_read, handed_on}
use Rattle.store_kernel.proofs.Reading.{can_read_places}
use Rattle.store_kernel.proofs.kernel.Kernel.planned.Goals as goal

pub begin-requires-clause-good : goal.begin-requires-clause-good
begin-requires-clause-good g c =
    let can = rw (← c.self.view_is) at c.requires.can_note in
    rw (c.width-width.ensures) (rows_of_width _ (g.D.Device.disk c.self.inside.device) c.self.invariant.kept can)

pub returns-in_err-draft-clause-err : goal.returns-in_err-draft-clause-err
returns-in_err-draft-clause-err g c =
    let disk = g.D.Device.disk c.self.inside.device in
    let why = c.in_err-draft.field-0.0 in
    rw (← c.self.view_is) (handed_on (λ cause. IsCauseOf cause c.args.txn.now _ disk) c.from_residual.result (cause_of_plan why) c.from_residual.ensures
    (no_draft _ disk c.args.txn.now why (rw (c.width-width.ensures) at c.in_err-draft.ensures.fail)))

pub read_places-requires : goal.read_places-requires
read_places-requires g c =
    let can = rw (← c.self.view_is) at c.requires.can_note in
    let disk = g.D.Device.disk c.self.inside.device in
    let draft = rw (c.width-width.ensures) at c.in_ok-draft.ensures.ok in
    record {
      can = rw (c.places.ensures) (can_read_places _ disk (memory_in c.self.inside.buffers) c.args.txn.now c.in_ok-draft.draft.planning.taken _ c.self.invariant.kept can.up
          c.self.invariant.memory draft.asks);
    }

pub returns-in_err-read-clause-err : goal.returns-in_err-read-clause-err
returns-in_err-read-clause-err g c =
    let disk = g.D.Device.disk c.self.inside.device in
    let why = c.in_err-read.field-0.0 in
    let draft = rw (c.width-width.ensures) at c.in_ok-draft.ensures.ok in
    rw (← c.self.view_is) (handed_on (λ cause. IsCauseOf cause c.args.txn.now _ disk) c.from_residual-in_err-read.result (cause_of_read why)
    c.from_residual-in_err-read.ensures
    (not_read _ disk c.args.txn.now (memory_in c.self.inside.buffers) c.in_ok-draft.draft why c.self.invariant.memory draft
    (rw (c.places.ensures) at c.in_err-read.ensures.bad)))

pub finish-requires-clause-good : goal.finish-requires-clause-good
finish-requires-clause-good g c =
    let can = rw (← c.self.view_is) at c.requires.can_note in
    rw (c.width-width.ensures) (rows_of_width _ (g.D.Device.disk c.self.inside.device) c.self.invariant.kept can)

pub returns-clause-ok : goal.returns-clause-ok
returns-clause-ok g c =
    let can = rw (← c.self.view_is) at c.requires.can_note in
    rw (← c.self.view_is) (given _ (g.D.Device.disk c.self.inside.device) c.args.txn.now c.in_ok-plan.plan (memory_in c.self.inside.buffers) (places_in c.in_ok-draft.draft)
    c.in_ok-read.read
    c.self.invariant.kept can c.self.invariant.memory (rw (c.width-width.ensures) at c.in_ok-plan.ensures.ok) c.in_ok-plan.ensures.read
    (rw (c.places.ensures) at c.in_ok-read.ensures.good))

pub returns-clause-fit : goal.returns-clause-fit
returns-clause-fit g c =
    let can = rw (← c.self.view_is) at c.requires.can_note in
    let disk = g.D.Device.disk c.self.inside.device in
    (planned_keeps _ disk c.args.txn.now c.in_ok-plan.plan c.self.invariant.kept can c.requires.known
    (given _ disk c.args.txn.now c.in_ok-plan.plan (memory_in c.self.inside.buffers) (places_in c.in_ok-draft.draft) c.in_ok-read.read c.self.invariant.kept can c.self.invariant.memory
    (rw (c.width-width.ensures) at c.in_ok-plan.ensures.ok) c.in_ok-plan.ensures.read (rw (c.places.ensures) at c.in_ok-read.ensures.good))).fit

pub returns-clause-short : goal.returns-clause-short
returns-clause-short g c =
    let can = rw (← c.self.view_is) at c.requires.can_note in
    let disk = g.D.Device.disk c.self.inside.device in
    planned_short _ disk c.args.txn.now c.in_ok-plan.plan c.self.invariant.kept can
    (given _ disk c.args.txn.now c.in_ok-plan.plan (memory_in c.self.inside.buffers) (places_in c.in_ok-draft.draft) c.in_ok-read.read c.self.invariant.kept can c.self.invariant.memory
    (rw (c.width-width.ensures) at c.in_ok-plan.ensures.ok) c.in_ok-plan.ensures.read (rw (c.places.ensures) at c.in_ok-read.ensures.good))
