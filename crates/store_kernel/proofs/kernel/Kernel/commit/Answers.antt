use Rattle.std.proofs.Common.{◌≡◌, List, Some, refl, sym, ap, subst, ◌∙◌}
use Rattle.std.specs.Option.{option_map}
use Rattle.store_steps.specs.declared.context.Context.{Context}
use Rattle.store_steps.specs.declared.step.Step.TheVariants.{Commit}
use Rattle.store_steps.specs.Prelude.{log_after}
use Rattle.kv_worker.specs.Batches.{CanCommit, flushed_batch}
use Rattle.write_buffers.specs.Prelude.{memory_in}
use Rattle.store_kernel.specs.Seen.{contexts_of, batch_of}
use Rattle.store_kernel.proofs.Keeping.{known_step}
use Rattle.store_kernel.proofs.Batches.{come_back, can_commit, commit_does}
use Rattle.store_kernel.proofs.Memories.{commit_memory}
use Rattle.store_kernel.proofs.kernel.Kernel.commit.Goals as goal

pub free_units-requires : goal.free_units-requires
free_units-requires g c =
    let k = c.self.inside in
    let ready = rw (← c.self.view_is) at c.requires in
    let batch : k.batch ≡ Some c.in-Some.open = sym c.take.ensures.value ∙ c.in-Some.is in
    let its : c.queued.result.now ≡ contexts_of c.in-Some.open.stage = c.queued.ensures ∙ c.in-Sealed.sealed-is ∙ sym (ap contexts_of c.in-Sealed.is) in
    rw its (come_back _ _ c.in-Some.open c.self.invariant.kept ready (ap (option_map batch_of) batch))

pub commit-requires : goal.commit-requires
commit-requires g c =
    let k = c.self.inside in
    let ready = rw (← c.self.view_is) at c.requires in
    let batch : k.batch ≡ Some c.in-Some.open = sym c.take.ensures.value ∙ c.in-Some.is in
    subst (λ (xs : List Context). CanCommit xs k.meta) (ap contexts_of c.in-Sealed.is ∙ sym c.in-Sealed.sealed-is)
    (can_commit _ _ k.meta c.in-Some.open c.self.invariant.kept ready (ap (option_map batch_of) batch) refl)

pub invariant_of-self : goal.invariant_of-self
invariant_of-self g c =
    let k = c.self.inside in
    let ready = rw (← c.self.view_is) at c.requires in
    let batch : k.batch ≡ Some c.in-Some.open = sym c.take.ensures.value ∙ c.in-Some.is in
    let stage : contexts_of c.in-Some.open.stage ≡ c.in-Sealed.sealed = ap contexts_of c.in-Sealed.is in
    let its : c.queued.result.now ≡ contexts_of c.in-Some.open.stage = c.queued.ensures ∙ c.in-Sealed.sealed-is ∙ sym stage in
    let log : c.commit.new.meta ≡ log_after (flushed_batch (contexts_of c.in-Some.open.stage)) k.meta =
    c.commit.ensures.log ∙ ap (λ (xs : List Context). log_after (flushed_batch xs) k.meta) (c.in-Sealed.sealed-is ∙ sym stage) in
    let does = commit_does _ _ k.meta c.commit.new.meta c.in-Some.open (ap (option_map batch_of) batch) refl log in
    rw (c.free_units.ensures.space, its, c.take.ensures.after)
    (known_step Commit _ _ _ _ _ _ _ _ c.self.invariant ready does c.self.invariant.kept.always.device tt
    (commit_memory _ _ _ _ (batch_of c.in-Some.open) (memory_in k.buffers) (memory_in c.free_units.new.buffers)
    c.self.invariant.kept ready (ap (option_map batch_of) batch) does
    c.self.invariant.memory (rw its at c.free_units.ensures.buffers)))

pub returns-clause-does : goal.returns-clause-does
returns-clause-does g c =
    let k = c.self.inside in
    let batch : k.batch ≡ Some c.in-Some.open = sym c.take.ensures.value ∙ c.in-Some.is in
    let stage : contexts_of c.in-Some.open.stage ≡ c.in-Sealed.sealed = ap contexts_of c.in-Sealed.is in
    let its : c.queued.result.now ≡ contexts_of c.in-Some.open.stage = c.queued.ensures ∙ c.in-Sealed.sealed-is ∙ sym stage in
    let log : c.commit.new.meta ≡ log_after (flushed_batch (contexts_of c.in-Some.open.stage)) k.meta =
    c.commit.ensures.log ∙ ap (λ (xs : List Context). log_after (flushed_batch xs) k.meta) (c.in-Sealed.sealed-is ∙ sym stage) in
    rw (c.free_units.ensures.space, its, c.take.ensures.after, ← c.self.view_is)
    (commit_does _ _ k.meta c.commit.new.meta c.in-Some.open (ap (option_map batch_of) batch) refl log)
