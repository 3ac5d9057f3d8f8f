use Rattle.std.proofs.Common.{sym, ◌∙◌}
use Rattle.store_steps.specs.declared.step.Step.TheVariants.{Finish}
use Rattle.store_kernel.proofs.Keeping.{known_step}
use Rattle.store_kernel.proofs.Batches.{finish_does}
use Rattle.store_kernel.proofs.Memories.{finish_memory}
use Rattle.store_kernel.proofs.kernel.Kernel.finish.Goals as goal

pub invariant_of-self : goal.invariant_of-self
invariant_of-self g c =
    let ready = rw (← c.self.view_is) at c.requires in
    known_step Finish _ _ _ _ _ _ _ _ c.self.invariant ready (finish_does _ _ c.index_mut-commit.result.now c.self.invariant.kept ready c.index_mut-commit.ensures.value) c.self.invariant.kept.always.device c.self.invariant.stage
    (c.self.invariant.memory ∙ sym (finish_memory _ _ _ _ (finish_does _ _ c.index_mut-commit.result.now c.self.invariant.kept ready c.index_mut-commit.ensures.value)))

pub returns-clause-does : goal.returns-clause-does
returns-clause-does g c =
    let ready = rw (← c.self.view_is) at c.requires in
    rw (← c.self.view_is) (finish_does _ _ c.index_mut-commit.result.now c.self.invariant.kept ready c.index_mut-commit.ensures.value)
