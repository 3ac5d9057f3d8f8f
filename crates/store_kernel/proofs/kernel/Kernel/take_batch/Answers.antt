use Rattle.std.proofs.Common.{inl, is_some, List, length, sym, ap, ◌∙◌, arith}
use Rattle.store_steps.specs.declared.step.Step.TheVariants.{Take}
use Rattle.store_steps.specs.declared.context.Context.{Context}
use Rattle.store_kernel.proofs.Keeping.{known_step}
use Rattle.store_kernel.proofs.Batches.{take_does, none_begun}
use Rattle.store_kernel.proofs.Memories.{take_memory}
use Rattle.store_kernel.proofs.kernel.Kernel.take_batch.Goals as goal

pub take_batch-requires : goal.take_batch-requires
take_batch-requires g c = rw (← c.self.view_is) at c.requires.count

pub note_commits-requires : goal.note_commits-requires
note_commits-requires g c =
    let count = rw (← c.self.view_is) at c.requires.count in
    let same = ap (λ (xs : List Context). length xs) (c.queued.ensures ∙ c.in-Ok.ensures.ok.is) in
    grind (arith, count, same, c.reserve.ensures.len, c.reserve.ensures.ok, c.is_err.ensures, c.if-is_err.false)

pub invariant_of-self-2 : goal.invariant_of-self-2
invariant_of-self-2 g c =
    let kept = c.self.invariant.kept in
    let ready = rw (← c.self.view_is) at c.requires.ready in
    let fits = rw (← c.self.view_is) at c.requires.fits in
    let does = take_does _ _ _ _ ready fits c.in-Ok.ensures.ok in
    rw (c.note_commits.ensures, c.reserve.ensures.items, c.queued.ensures, c.replace.ensures.after)
    (known_step Take _ _ _ _ _ _ _ _ c.self.invariant ready (inl does) kept.always.device (sym (ap is_some (none_begun _ _ kept ready).begun))
    (c.self.invariant.memory ∙ sym (take_memory _ _ _ _ kept ready does)))

pub returns-clause-ok : goal.returns-clause-ok
returns-clause-ok g c =
    let ready = rw (← c.self.view_is) at c.requires.ready in
    let fits = rw (← c.self.view_is) at c.requires.fits in
    rw (c.note_commits.ensures, c.reserve.ensures.items, c.queued.ensures, c.replace.ensures.after, ← c.self.view_is)
    (take_does _ _ _ _ ready fits c.in-Ok.ensures.ok)
