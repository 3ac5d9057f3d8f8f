use Rattle.std.proofs.Common.{inr, sym, ap, subst, ◌∙◌}
use Rattle.meta_store.specs.Store.{Meta}
use Rattle.store_steps.specs.declared.step.Step.TheVariants.{Take}
use Rattle.store_steps.specs.Prelude.{memory_of}
use Rattle.store_kernel.specs.Seen.{IsStageOf}
use Rattle.store_kernel.proofs.Keeping.{known_step}
use Rattle.store_kernel.proofs.Batches.{none_begun, open_does}
use Rattle.store_kernel.proofs.HalfSteps.{slot_limits, check_room}
use Rattle.store_kernel.proofs.kernel.Kernel.open_check.Goals as goal

pub begin_check-requires-clause-idle : goal.begin_check-requires-clause-idle
begin_check-requires-clause-idle g c =
    let ready = rw (← c.self.view_is) at c.requires.ready in
    (none_begun _ _ c.self.invariant.kept ready).begun

pub begin_check-requires-clause-resting : goal.begin_check-requires-clause-resting
begin_check-requires-clause-resting g c =
    let ready = rw (← c.self.view_is) at c.requires.ready in
    (none_begun _ _ c.self.invariant.kept ready).check

pub begin_check-requires-clause-limits : goal.begin_check-requires-clause-limits
begin_check-requires-clause-limits g c = slot_limits _ _ c.self.invariant.kept

pub begin_check-requires-clause-fits : goal.begin_check-requires-clause-fits
begin_check-requires-clause-fits g c =
    let ready = rw (← c.self.view_is) at c.requires.ready in
    check_room _ _ c.self.invariant.kept ready

pub invariant_of-self-2 : goal.invariant_of-self-2
invariant_of-self-2 g c =
    let k = c.self.inside in
    let kept = c.self.invariant.kept in
    let ready = rw (← c.self.view_is) at c.requires.ready in
    let long = rw (← c.self.view_is) at c.requires.too_long in
    let does = open_does _ _ c.begin_check.new.self kept ready long c.in-Ok.ensures.ok in
    known_step Take _ _ _ _ _ _ _ _ c.self.invariant ready (inr does) kept.always.device
    (subst (λ (m : Meta). IsStageOf m.begun k.batch) (sym c.in-Ok.ensures.ok) c.self.invariant.stage)
    (c.self.invariant.memory ∙ sym (ap memory_of does.after))

pub returns-clause-ok : goal.returns-clause-ok
returns-clause-ok g c =
    let ready = rw (← c.self.view_is) at c.requires.ready in
    let long = rw (← c.self.view_is) at c.requires.too_long in
    rw (← c.self.view_is) (open_does _ _ c.begin_check.new.self c.self.invariant.kept ready long c.in-Ok.ensures.ok)
