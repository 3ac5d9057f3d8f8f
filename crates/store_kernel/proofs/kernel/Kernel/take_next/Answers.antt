use Rattle.std.proofs.Common.{List, length, sym, ap, subst, ◌∙◌}
use Rattle.store_steps.specs.declared.context.Context.{Context}
use Rattle.store_steps.specs.Prelude.{most_grouped, choice}
use Rattle.waiting_contexts.specs.Choices.{IsChoiceOf}
use Rattle.store_kernel.proofs.kernel.Kernel.take_next.Goals as goal

pub next_fits-requires-clause-next : goal.next_fits-requires-clause-next
next_fits-requires-clause-next g c =
    subst (λ (xs : List Context). IsChoiceOf (choice most_grouped xs) c.in-Ok.next) (sym c.choose_batch.ensures.same) c.in-Ok.ensures.chosen

pub take_batch-requires-clause-count : goal.take_batch-requires-clause-count
take_batch-requires-clause-count g c =
    (c.in-Ok.ensures.chosen).count ∙ ap (λ (xs : List Context). length (choice most_grouped xs)) (sym c.choose_batch.ensures.same)
