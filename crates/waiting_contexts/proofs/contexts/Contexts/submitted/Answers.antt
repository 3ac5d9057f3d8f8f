use Rattle.std.proofs.Common.{List, sym, subst}
use Rattle.store_steps.specs.declared.context.Context.{Context}
use Rattle.waiting_contexts.specs.Ties.{IsTied}
use Rattle.waiting_contexts.proofs.TiedLemmas.{given_tied}
use Rattle.waiting_contexts.proofs.contexts.Contexts.submitted.Goals as goal

pub invariant_of-self : goal.invariant_of-self
invariant_of-self c =
    subst (λ (xs : List Context). IsTied xs c.self.inside.sequencers c.self.inside.heads) (sym c.submitted.ensures)
    (given_tied c.args.place c.args.count c.self.inside.submissions c.self.inside.sequencers c.self.inside.heads c.facts.ensures c.self.invariant)
