use Rattle.std.proofs.Common.{List, is_some, ap, ◌∙◌}
use Rattle.store_steps.specs.declared.context.Context.{Context}
use Rattle.store_steps.specs.Prelude.{chosen}
use Rattle.waiting_contexts.proofs.TiedLemmas.{tells_some}
use Rattle.waiting_contexts.proofs.contexts.Contexts.has_done.Goals as goal

pub returns : goal.returns
returns c =
    tells_some c.self.inside.submissions c.self.inside.heads.places c.is_empty.result c.facts.ensures c.self.invariant.heads c.is_empty.ensures
    ∙ ap (λ (xs : List Context). is_some (chosen xs)) c.self.view_is
