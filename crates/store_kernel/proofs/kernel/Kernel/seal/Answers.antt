use Rattle.std.proofs.Common.{◌≡◌, List, Option, Some, is_some, refl, sym, ap, subst, ◌∙◌}
use Rattle.std.specs.Option.{option_map}
use Rattle.meta_store.specs.Store.{Meta, with_begun}
use Rattle.store_steps.specs.declared.context.Context.{Context}
use Rattle.store_steps.specs.declared.step.Step.TheVariants.{Seal}
use Rattle.kv_worker.specs.Batches.{CanSeal, ops_of_batch}
use Rattle.store_kernel.specs.declared.batch.OpenBatch.{OpenBatch}
use Rattle.store_kernel.specs.declared.batch.Stage.{Stage}
use Rattle.store_kernel.specs.declared.batch.Stage.TheVariants.{Taken}
use Rattle.store_kernel.specs.Known.{KnownOfKernel}
use Rattle.store_kernel.specs.Seen.{contexts_of, batch_of, state_of}
use Rattle.store_kernel.proofs.Keeping.{known_step}
use Rattle.store_kernel.proofs.Sending.{can_seal, seal_does}
use Rattle.store_kernel.proofs.Memories.{seal_memory}
use Rattle.store_kernel.proofs.kernel.Kernel.seal.Goals as goal

pub seal-requires : goal.seal-requires
seal-requires g c =
    let k = c.self.inside in
    let ready = rw (← c.self.view_is) at c.requires in
    let batch : k.batch ≡ Some c.in-Some.open = sym c.take.ensures.value ∙ c.in-Some.is in
    subst (λ (xs : List Context). CanSeal xs k.meta) (ap contexts_of c.in-Taken.is)
    (can_seal _ _ k.meta c.in-Some.open c.self.invariant.kept ready (ap (option_map batch_of) batch) refl)

pub invariant_of-self : goal.invariant_of-self
invariant_of-self g c =
    let k = c.self.inside in
    let ready = rw (← c.self.view_is) at c.requires in
    let batch : k.batch ≡ Some c.in-Some.open = sym c.take.ensures.value ∙ c.in-Some.is in
    let taken : contexts_of c.in-Some.open.stage ≡ c.in-Taken.batch = ap contexts_of c.in-Taken.is in
    let does = seal_does _ _ k.meta c.seal.new.meta c.in-Some.open c.in-Ok.sealed (ap (option_map batch_of) batch) refl
    (c.in-Ok.ensures.begun ∙ ap (λ (xs : List Context). with_begun k.meta (ops_of_batch xs)) (sym taken)) (c.in-Ok.ensures.same ∙ sym taken) in
    subst (λ (o : Option OpenBatch). KnownOfKernel k.buffers o
    (state_of c.seal.new.meta k.submitted.rows k.contexts o k.switching k.flying.items k.down k.events k.space k.entries.items k.commits.items k.acked k.next_sbid)
    (g.D.Device.disk k.device)) (sym c.replace.ensures.after)
    (known_step Seal _ _ _ _ _ _ _ _ c.self.invariant ready does c.self.invariant.kept.always.device
    (sym (ap (λ (m : Meta). is_some m.begun) c.in-Ok.ensures.begun)) (c.self.invariant.memory ∙ sym (seal_memory _ _ _ _ does)))

pub invariant_of-self-in-Err : goal.invariant_of-self-in-Err
invariant_of-self-in-Err g c =
    let k = c.self.inside in
    let same : k.batch ≡ Some (record { stage = Taken c.in-Err.back; first = c.in-Some.open.first; second = c.in-Some.open.second }) =
    sym c.take.ensures.value ∙ c.in-Some.is
    ∙ ap (λ (stage : Stage). let b : OpenBatch = record { stage = stage; first = c.in-Some.open.first; second = c.in-Some.open.second } in Some b)
    (c.in-Taken.is ∙ ap Taken (sym c.in-Err.ensures.back)) in
    rw c.in-Err.ensures.err
    (subst (λ (o : Option OpenBatch). KnownOfKernel k.buffers o
    (state_of k.meta k.submitted.rows k.contexts o k.switching k.flying.items k.down k.events k.space k.entries.items k.commits.items k.acked k.next_sbid)
    (g.D.Device.disk k.device)) (same ∙ sym c.replace-in-Err.ensures.after) c.self.invariant)
