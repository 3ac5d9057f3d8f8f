use Rattle.std.proofs.Common.{List, is_some, ap, ◌∙◌}
use Rattle.store_steps.specs.declared.context.Context.{Context}
use Rattle.store_steps.specs.Prelude.{next_unsent}
use Rattle.waiting_contexts.proofs.UnsentLemmas.{is_left}
use Rattle.waiting_contexts.proofs.submissions.Submissions.has_unsent.Goals as goal

pub returns : goal.returns
returns c =
    c.is_some.ensures
    ∙ c.front.ensures.item.0
    ∙ is_left c.self.inside.contexts c.self.inside.unsent.items c.facts.ensures c.self.invariant
    ∙ ap (λ (xs : List Context). is_some (next_unsent xs)) c.self.view_is
