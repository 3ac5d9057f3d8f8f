use Rattle.std.proofs.Common.{◌≡◌, List, Option, Some, None, is_some, subst, ap, ◌∙◌}
use Rattle.std.specs.Prelude.{IfOk}
use Rattle.std.proofs.lemmas.Bool.{false≢true}
use Rattle.store_steps.specs.declared.context.Context.{Context}
use Rattle.store_steps.specs.Prelude.{Unsent, unsent, next_unsent}
use Rattle.txn_states.specs.Writes.{IsWrite}
use Rattle.waiting_contexts.proofs.UnsentLemmas.{HasNext, is_left, front_has_next}
use Rattle.waiting_contexts.proofs.submissions.Submissions.next_write.Goals as goal

pub unreachable-requires : goal.unreachable-requires
unreachable-requires c =
    false≢true (c.in_default.ensures.item.0
    ∙ is_left c.self.inside.contexts c.self.inside.unsent.items c.facts.ensures c.self.invariant
    ∙ ap (λ (xs : List Context). is_some (next_unsent xs)) c.self.view_is
    ∙ c.requires)

pub unreachable-requires-in_default-get : goal.unreachable-requires-in_default-get
unreachable-requires-in_default-get c =
    let next : HasNext 0 c.self.inside.contexts c.in-Some.place.now =
    front_has_next c.self.inside.contexts c.self.inside.unsent.items c.in-Some.place.now c.facts.ensures c.self.invariant c.in-Some.ensures.item.0 c.in-Some.ensures.lookup in
    let none : ◌≡◌ {A = Option Context} None (Some next.context) = c.in_default-get.ensures ∙ next.at in
    cc

pub next_write-requires : goal.next_write-requires
next_write-requires c =
    let next : HasNext 0 c.self.inside.contexts c.in-Some.place.now =
    front_has_next c.self.inside.contexts c.self.inside.unsent.items c.in-Some.place.now c.facts.ensures c.self.invariant c.in-Some.ensures.item.0 c.in-Some.ensures.lookup in
    let found : ◌≡◌ {A = Option Context} (Some c.in-Some-get.context.now) (Some next.context) = c.in-Some-get.ensures ∙ next.at in
    let same : ◌≡◌ {A = Context} c.in-Some-get.context.now next.context = cc in
    ap (λ (x : Context). is_some (unsent x)) same ∙ ap is_some next.next ∙ next.some

pub returns : goal.returns
returns c =
    let next : HasNext 0 c.self.inside.contexts c.in-Some.place.now =
    front_has_next c.self.inside.contexts c.self.inside.unsent.items c.in-Some.place.now c.facts.ensures c.self.invariant c.in-Some.ensures.item.0 c.in-Some.ensures.lookup in
    let found : ◌≡◌ {A = Option Context} (Some c.in-Some-get.context.now) (Some next.context) = c.in-Some-get.ensures ∙ next.at in
    let same : ◌≡◌ {A = Context} c.in-Some-get.context.now next.context = cc in
    subst (λ (o : Option Unsent). IfOk c.next_write.result (IsWrite o)) (ap unsent same ∙ next.next ∙ ap next_unsent c.self.view_is) c.next_write.ensures
