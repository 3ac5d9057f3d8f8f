use Rattle.std.proofs.Common.{◌+◌, ◌≤◌, true, false, length, List, Option, subst, sym, refl, ◌∙◌}
use Rattle.std.specs.Prelude.{IfSome}
use Rattle.store_steps.specs.declared.context.Context.{Context}
use Rattle.store_steps.specs.Prelude.{next_unsent}
use Rattle.waiting_contexts.specs.Unsent.{IsOfNext}
use Rattle.waiting_contexts.proofs.UnsentLemmas.{IsSent, is_sent, queue_sent}
use Rattle.waiting_contexts.proofs.submissions.Submissions.submitted.Goals as goal

pub submitted-requires : goal.submitted-requires
submitted-requires c =
    let of : IsOfNext c.args.place c.args.count (next_unsent c.self.inside.contexts) =
    subst (λ (xs : List Context). IsOfNext c.args.place c.args.count (next_unsent xs)) (sym c.self.view_is) c.requires in
    let s : IsSent c.self.inside.contexts c.args.place c.args.count = is_sent c.self.inside.contexts c.args.place c.args.count c.facts.ensures of in
    subst (λ (o : Option Context). IfSome o (λ x. x.given + c.args.count ≤ length x.fresh)) (sym s.at) s.fits

pub invariant_of-self : goal.invariant_of-self
invariant_of-self c =
    let of : IsOfNext c.args.place c.args.count (next_unsent c.self.inside.contexts) =
    subst (λ (xs : List Context). IsOfNext c.args.place c.args.count (next_unsent xs)) (sym c.self.view_is) c.requires in
    queue_sent c.self.inside.contexts c.submitted.new.self c.args.place c.args.count c.self.inside.unsent.items c.pop_front.new.self.items false c.facts.ensures of
    c.self.invariant c.submitted.ensures.given (sym c.submitted.ensures.left ∙ c.if-not-submitted.true) c.pop_front.ensures.rest

pub invariant_of-self-else-not-submitted : goal.invariant_of-self-else-not-submitted
invariant_of-self-else-not-submitted c =
    let of : IsOfNext c.args.place c.args.count (next_unsent c.self.inside.contexts) =
    subst (λ (xs : List Context). IsOfNext c.args.place c.args.count (next_unsent xs)) (sym c.self.view_is) c.requires in
    queue_sent c.self.inside.contexts c.submitted.new.self c.args.place c.args.count c.self.inside.unsent.items c.self.inside.unsent.items true c.facts.ensures of
    c.self.invariant c.submitted.ensures.given (sym c.submitted.ensures.left ∙ c.if-not-submitted.false) refl
