use Rattle.std.proofs.Common.{List, Option, subst, ap, sym, ◌∙◌}
use Rattle.store_steps.specs.declared.context.Context.{Context}
use Rattle.store_steps.specs.Prelude.{without_context}
use Rattle.waiting_contexts.specs.Places.{IsNewest, context_at, with_newest}
use Rattle.waiting_contexts.proofs.NewestLemmas.{is_found, newest_goes, older_there, older_goes, newest_without}
use Rattle.waiting_contexts.proofs.by_place.ByPlace.take.Goals as goal

pub returns-then-is_at-clause-taken : goal.returns-then-is_at-clause-taken
returns-then-is_at-clause-taken c =
    c.take.ensures.value
    ∙ is_found c.args.place c.self.inside.newest c.self.inside.older c.self.invariant (sym c.is_at.ensures ∙ c.if-is_at.true)
    ∙ ap (context_at c.args.place) c.self.view_is

pub returns-then-is_at-clause-left : goal.returns-then-is_at-clause-left
returns-then-is_at-clause-left c =
    ap (λ (o : Option Context). with_newest o c.self.inside.older) c.take.ensures.after
    ∙ newest_goes c.args.place c.self.inside.newest c.self.inside.older c.self.invariant (sym c.is_at.ensures ∙ c.if-is_at.true)
    ∙ ap (without_context c.args.place) c.self.view_is

pub invariant_of-self-2 : goal.invariant_of-self-2
invariant_of-self-2 c =
    subst (λ (ys : List Context). IsNewest c.self.inside.newest ys) (sym c.take-2.ensures.left)
    (newest_without c.args.place c.self.inside.newest c.self.inside.older c.self.invariant)

pub returns-clause-taken : goal.returns-clause-taken
returns-clause-taken c =
    c.take-2.ensures.taken
    ∙ older_there c.args.place c.self.inside.newest c.self.inside.older c.args.self.now (sym c.is_at.ensures ∙ c.if-is_at.false) c.self.view_is

pub returns-clause-left : goal.returns-clause-left
returns-clause-left c =
    ap (with_newest c.self.inside.newest) c.take-2.ensures.left
    ∙ older_goes c.args.place c.self.inside.newest c.self.inside.older (sym c.is_at.ensures ∙ c.if-is_at.false)
    ∙ ap (without_context c.args.place) c.self.view_is
