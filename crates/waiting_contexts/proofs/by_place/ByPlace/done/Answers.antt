use Rattle.std.proofs.Common.{◌+◌, ◌≤◌, List, Option, Some, not, false, subst, sym, ap, refl, ◌∙◌}
use mathlib.Core.Bool.{beq}
use Rattle.std.specs.Prelude.{IfSome}
use Rattle.std.specs.Option.{option_map_or}
use Rattle.txn_states.specs.States.{IsUnderWay}
use Rattle.store_steps.specs.declared.context.Context.{Context}
use Rattle.store_steps.specs.Prelude.{is_done, done_more}
use Rattle.waiting_contexts.specs.Places.{IsNewest, is_done_at, with_newest}
use Rattle.waiting_contexts.proofs.AtPlace.{last_there}
use Rattle.waiting_contexts.proofs.NewestLemmas.{is_not_found, newest_there, older_there, newest_changes, older_changes, newest_with}
use Rattle.waiting_contexts.proofs.by_place.ByPlace.done.Goals as goal

pub done-requires : goal.done-requires
done-requires c =
    subst (λ (o : Option Context). IfSome o (λ x. x.done + c.args.count ≤ x.given))
    (newest_there c.args.place c.self.inside.newest c.self.inside.older c.args.self.now c.in-Some.newest c.self.invariant (sym c.is_at.ensures ∙ c.if-is_at.true) c.in-Some.is c.self.view_is)
    c.requires

pub returns-then-is_at-clause-done : goal.returns-then-is_at-clause-done
returns-then-is_at-clause-done c =
    newest_changes c.args.place (done_more c.args.count) c.self.inside.newest c.self.inside.older c.args.self.now c.in-Some.newest c.done.new.self c.self.invariant
    (sym c.is_at.ensures ∙ c.if-is_at.true) c.in-Some.is c.done.ensures c.self.view_is

pub done-requires-2 : goal.done-requires-2
done-requires-2 c =
    subst (λ (o : Option Context). IfSome o (λ x. x.done + c.args.count ≤ x.given))
    (sym (older_there c.args.place c.self.inside.newest c.self.inside.older c.args.self.now (sym c.is_at.ensures ∙ c.if-is_at.false) c.self.view_is)) c.requires

pub invariant_of-self-2 : goal.invariant_of-self-2
invariant_of-self-2 c =
    subst (λ (ys : List Context). IsNewest c.self.inside.newest ys) (sym c.done-2.ensures.done)
    (newest_with c.args.place (done_more c.args.count) c.self.inside.newest c.self.inside.older (λ z. refl) c.self.invariant)

pub returns-clause-done : goal.returns-clause-done
returns-clause-done c =
    older_changes c.args.place (done_more c.args.count) c.self.inside.newest c.self.inside.older c.done-2.new.self c.args.self.now (sym c.is_at.ensures ∙ c.if-is_at.false)
    c.done-2.ensures.done c.self.view_is

pub returns-then-is_at-clause-facts : goal.returns-then-is_at-clause-facts
returns-then-is_at-clause-facts c =
    subst (λ (o : Option Context). IfSome o IsUnderWay)
    (sym (newest_there c.args.place c.self.inside.newest c.self.inside.older c.args.self.now c.in-Some.newest c.self.invariant (sym c.is_at.ensures ∙ c.if-is_at.true) c.in-Some.is c.self.view_is))
    c.facts.ensures

pub returns-clause-facts : goal.returns-clause-facts
returns-clause-facts c =
    subst (λ (o : Option Context). IfSome o IsUnderWay)
    (older_there c.args.place c.self.inside.newest c.self.inside.older c.args.self.now (sym c.is_at.ensures ∙ c.if-is_at.false) c.self.view_is) c.done-2.ensures.facts

pub returns-then-is_at-clause-last : goal.returns-then-is_at-clause-last
returns-then-is_at-clause-last c =
    let there = newest_there c.args.place c.self.inside.newest c.self.inside.older c.args.self.now c.in-Some.newest c.self.invariant (sym c.is_at.ensures ∙ c.if-is_at.true)
    c.in-Some.is c.self.view_is in
    last_there c.args.place (done_more c.args.count) (λ z. refl) c.args.self.now (with_newest (Some c.done.new.self) c.self.inside.older) (returns-then-is_at-clause-done c)
    c.in-Some.newest c.done.new.self c.is_done-was_done.result c.is_done.result (not (beq c.is_done.result c.is_done-was_done.result)) there c.done.ensures
    c.is_done-was_done.ensures c.is_done.ensures refl

pub returns-clause-last : goal.returns-clause-last
returns-clause-last c =
    c.done-2.ensures.last
    ∙ ap (λ (o : Option Context). not (beq (option_map_or (λ (z : Context). is_done z) o false) (is_done_at c.args.place c.self.inside.older)))
    (is_not_found c.args.place c.self.inside.newest c.done-2.new.self (sym c.is_at.ensures ∙ c.if-is_at.false))
    ∙ ap (λ (o : Option Context). not (beq (is_done_at c.args.place (with_newest c.self.inside.newest c.done-2.new.self)) (option_map_or (λ (z : Context). is_done z) o false)))
    (older_there c.args.place c.self.inside.newest c.self.inside.older c.args.self.now (sym c.is_at.ensures ∙ c.if-is_at.false) c.self.view_is)
