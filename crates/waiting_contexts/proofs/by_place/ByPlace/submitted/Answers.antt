use Rattle.std.proofs.Common.{◌+◌, ◌≤◌, length, List, Option, Some, is_some, false, subst, sym, ap, refl, ◌∙◌}
use Rattle.std.specs.Prelude.{IfSome}
use Rattle.std.specs.Option.{option_map_or}
use Rattle.store_steps.specs.declared.context.Context.{Context}
use Rattle.store_steps.specs.Prelude.{unsent, given_more}
use Rattle.waiting_contexts.specs.Places.{IsNewest, with_newest}
use Rattle.waiting_contexts.proofs.AtPlace.{left_there}
use Rattle.waiting_contexts.proofs.NewestLemmas.{is_not_found, newest_there, older_there, newest_changes, older_changes, newest_with}
use Rattle.waiting_contexts.proofs.by_place.ByPlace.submitted.Goals as goal

pub submitted-requires : goal.submitted-requires
submitted-requires c =
    subst (λ (o : Option Context). IfSome o (λ x. x.given + c.args.count ≤ length x.fresh))
    (newest_there c.args.place c.self.inside.newest c.self.inside.older c.args.self.now c.in-Some.newest c.self.invariant (sym c.is_at.ensures ∙ c.if-is_at.true) c.in-Some.is c.self.view_is)
    c.requires

pub returns-then-is_at-clause-given : goal.returns-then-is_at-clause-given
returns-then-is_at-clause-given c =
    newest_changes c.args.place (given_more c.args.count) c.self.inside.newest c.self.inside.older c.args.self.now c.in-Some.newest c.submitted.new.self c.self.invariant
    (sym c.is_at.ensures ∙ c.if-is_at.true) c.in-Some.is c.submitted.ensures c.self.view_is

pub submitted-requires-2 : goal.submitted-requires-2
submitted-requires-2 c =
    subst (λ (o : Option Context). IfSome o (λ x. x.given + c.args.count ≤ length x.fresh))
    (sym (older_there c.args.place c.self.inside.newest c.self.inside.older c.args.self.now (sym c.is_at.ensures ∙ c.if-is_at.false) c.self.view_is)) c.requires

pub invariant_of-self-2 : goal.invariant_of-self-2
invariant_of-self-2 c =
    subst (λ (ys : List Context). IsNewest c.self.inside.newest ys) (sym c.submitted-2.ensures.given)
    (newest_with c.args.place (given_more c.args.count) c.self.inside.newest c.self.inside.older (λ z. refl) c.self.invariant)

pub returns-clause-given : goal.returns-clause-given
returns-clause-given c =
    older_changes c.args.place (given_more c.args.count) c.self.inside.newest c.self.inside.older c.submitted-2.new.self c.args.self.now (sym c.is_at.ensures ∙ c.if-is_at.false)
    c.submitted-2.ensures.given c.self.view_is

pub returns-then-is_at-clause-left : goal.returns-then-is_at-clause-left
returns-then-is_at-clause-left c =
    let there = newest_there c.args.place c.self.inside.newest c.self.inside.older c.args.self.now c.in-Some.newest c.self.invariant (sym c.is_at.ensures ∙ c.if-is_at.true)
    c.in-Some.is c.self.view_is in
    left_there c.args.place (given_more c.args.count) (λ z. refl) c.args.self.now (with_newest (Some c.submitted.new.self) c.self.inside.older) (returns-then-is_at-clause-given c)
    c.in-Some.newest c.submitted.new.self c.has_unsent.result there c.submitted.ensures c.has_unsent.ensures

pub returns-clause-left : goal.returns-clause-left
returns-clause-left c =
    c.submitted-2.ensures.left
    ∙ ap (λ (o : Option Context). option_map_or (λ (z : Context). is_some (unsent z)) o false)
    (is_not_found c.args.place c.self.inside.newest c.submitted-2.new.self (sym c.is_at.ensures ∙ c.if-is_at.false))
