use Rattle.std.proofs.Common.{◌≡◌, true, None, Option, subst, sym, ap, ◌∙◌}
use Rattle.std.specs.Prelude.{IfSome}
use Rattle.store_steps.specs.declared.context.Context.{Context}
use Rattle.store_steps.specs.Prelude.{unsent, is_done}
use Rattle.waiting_contexts.specs.Places.{context_at}
use Rattle.waiting_contexts.specs.Unsent.{unsent_places}
use Rattle.waiting_contexts.proofs.UnsentLemmas.{same_without}
use Rattle.waiting_contexts.proofs.TiedLemmas.{all_sent}
use Rattle.waiting_contexts.proofs.submissions.Submissions.take.Goals as goal

pub invariant_of-self : goal.invariant_of-self
invariant_of-self c =
    let none : IfSome (context_at c.args.place c.self.inside.contexts) (λ x. unsent x ≡ None) =
    subst (λ (o : Option Context). IfSome o (λ x. unsent x ≡ None)) (sym c.in_default.is ∙ c.take.ensures.taken) tt in
    c.self.invariant ∙ sym (ap unsent_places c.take.ensures.left ∙ same_without 0 c.args.place c.self.inside.contexts c.facts.ensures none)

pub invariant_of-self-2 : goal.invariant_of-self-2
invariant_of-self-2 c =
    let at = sym c.in-Some.is ∙ c.take.ensures.taken in
    let done : is_done c.in-Some.taken ≡ true =
    subst (λ (o : Option Context). IfSome o (λ x. is_done x ≡ true)) (ap (context_at c.args.place) (sym c.self.view_is) ∙ sym at) c.requires in
    let none : IfSome (context_at c.args.place c.self.inside.contexts) (λ x. unsent x ≡ None) =
    subst (λ (o : Option Context). IfSome o (λ x. unsent x ≡ None)) at (all_sent c.in-Some.taken c.facts-2.ensures done) in
    c.self.invariant ∙ sym (ap unsent_places c.take.ensures.left ∙ same_without 0 c.args.place c.self.inside.contexts c.facts.ensures none)
