use Rattle.std.proofs.Common.{◌≡◌, ℕ, ◌-◌, true, false, List, Option, Some, None, is_some, length, take, arith, deque_len, sym, ap, subst, refl, ◌∙◌}
use Rattle.std.specs.Option.{option_map_or}
use Rattle.store_steps.specs.declared.context.Context.{Context}
use Rattle.store_steps.specs.Prelude.{unsent}
use Rattle.waiting_contexts.specs.Places.{IsLastPlace}
use Rattle.waiting_contexts.proofs.TiedLemmas.{at_the_last, queue_withdrawn}
use Rattle.waiting_contexts.proofs.submissions.Submissions.withdraw.Goals as goal

pub unreachable-requires : goal.unreachable-requires
unreachable-requires c =
    let last : IsLastPlace c.args.place c.self.inside.contexts = subst (λ (xs : List Context). IsLastPlace c.args.place xs) (sym c.self.view_is) c.requires in
    let found : ◌≡◌ {A = Option Context} None (Some last.last) = sym c.in_default.is ∙ c.take.ensures.taken ∙ at_the_last c.args.place c.self.inside.contexts last in
    absurd (cc)

pub invariant_of-self : goal.invariant_of-self
invariant_of-self c =
    let last : IsLastPlace c.args.place c.self.inside.contexts = subst (λ (xs : List Context). IsLastPlace c.args.place xs) (sym c.self.view_is) c.requires in
    let same_length : deque_len c.self.inside.unsent ≡ length c.self.inside.unsent.items = omega arith in
    queue_withdrawn c.args.place c.self.inside.contexts c.take.new.self c.self.inside.unsent.items c.pop_back.new.self.items true last c.self.invariant
    (sym c.if-has_unsent.true ∙ c.has_unsent.ensures
    ∙ ap (λ (o : Option Context). option_map_or (λ (x : Context). is_some (unsent x)) o false) (sym c.in-Some.is ∙ c.take.ensures.taken))
    c.take.ensures.left (c.pop_back.ensures.rest ∙ ap (λ (n : ℕ). take (n - 1) c.self.inside.unsent.items) same_length)

pub invariant_of-self-else-has_unsent : goal.invariant_of-self-else-has_unsent
invariant_of-self-else-has_unsent c =
    let last : IsLastPlace c.args.place c.self.inside.contexts = subst (λ (xs : List Context). IsLastPlace c.args.place xs) (sym c.self.view_is) c.requires in
    queue_withdrawn c.args.place c.self.inside.contexts c.take.new.self c.self.inside.unsent.items c.self.inside.unsent.items false last c.self.invariant
    (sym c.if-has_unsent.false ∙ c.has_unsent.ensures
    ∙ ap (λ (o : Option Context). option_map_or (λ (x : Context). is_some (unsent x)) o false) (sym c.in-Some.is ∙ c.take.ensures.taken))
    c.take.ensures.left refl
