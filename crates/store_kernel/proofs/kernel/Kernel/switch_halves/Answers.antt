use Rattle.std.proofs.Common.{sym, ap, subst, ◌∙◌}
use Rattle.meta_store.specs.Store.{Meta}
use Rattle.store_steps.specs.declared.step.Step.TheVariants.{Switch}
use Rattle.store_steps.specs.Prelude.{memory_of}
use Rattle.store_kernel.specs.Seen.{IsStageOf}
use Rattle.store_kernel.proofs.Keeping.{known_step}
use Rattle.store_kernel.proofs.HalfSteps.{check_all_written, switch_does}
use Rattle.store_kernel.proofs.kernel.Kernel.switch_halves.Goals as goal

pub switch-requires : goal.switch-requires
switch-requires g c =
    let ready = rw (← c.self.view_is) at c.requires in
    check_all_written _ _ c.self.invariant.kept ready

pub invariant_of-self : goal.invariant_of-self
invariant_of-self g c =
    let ready = rw (← c.self.view_is) at c.requires in
    let does = switch_does _ _ c.switch.new.self c.switch.ensures in
    known_step Switch _ _ _ _ _ _ _ _ c.self.invariant ready does c.self.invariant.kept.always.device
    (subst (λ (m : Meta). IsStageOf m.begun c.self.inside.batch) (sym c.switch.ensures) c.self.invariant.stage)
    (c.self.invariant.memory ∙ sym (ap memory_of does.after))

pub returns-clause-does : goal.returns-clause-does
returns-clause-does g c = rw (← c.self.view_is) (switch_does _ _ c.switch.new.self c.switch.ensures)
