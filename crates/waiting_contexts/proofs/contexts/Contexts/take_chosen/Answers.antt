use Rattle.std.proofs.Common.{ℕ, ◌+◌, ◌==◌, false, cond, List, Option, Some, is_some, sym, ap, ◌∙◌, arith}
use Rattle.std.specs.Option.{option_map_or}
use Rattle.std.proofs.lemmas.Bool.{false≢true}
use Rattle.store_steps.specs.declared.context.Context.{Context}
use Rattle.store_steps.specs.Prelude.{chosen, without_context}
use Rattle.waiting_contexts.specs.Heads.{count_of}
use Rattle.waiting_contexts.proofs.HeadCounts.{none_where_empty, heads_fit}
use Rattle.waiting_contexts.proofs.TiedLemmas.{taken_is_done, taken_tied, is_taken}
use Rattle.waiting_contexts.proofs.contexts.Contexts.take_chosen.Goals as goal

pub unreachable-requires : goal.unreachable-requires
unreachable-requires c =
    false≢true (sym (ap is_some (none_where_empty c.self.inside.submissions c.self.inside.heads.places c.facts.ensures c.self.invariant.heads c.in_default.ensures.least))
    ∙ ap (λ (xs : List Context). is_some (chosen xs)) c.self.view_is ∙ c.requires)

pub take-requires : goal.take-requires
take-requires c =
    taken_is_done c.in-Some.place c.self.inside.submissions c.self.inside.heads.places c.facts.ensures c.self.invariant.heads c.in-Some.ensures.least

pub advance-requires : goal.advance-requires
advance-requires c =
    omega (arith, c.in-Some.ensures.length, c.in-Some.ensures.room, heads_fit c.self.inside.heads.places c.self.inside.submissions c.self.invariant.heads, c.self.invariant.room)

pub queue-requires : goal.queue-requires
queue-requires c =
    (is_taken c.in-Some.place c.self.inside.submissions c.self.inside.heads.places c.in-Some-take.context c.facts.ensures c.self.invariant.heads c.in-Some.ensures.least
    c.in-Some-take.ensures.taken).1.0

pub invariant_of-self : goal.invariant_of-self
invariant_of-self c =
    taken_tied c.in-Some.place c.self.inside.submissions c.take.new.self c.in-Some-take.context c.coll.result.now c.self.inside.sequencers c.pop_ready-next.new.self c.self.inside.heads
    c.pop.new.self c.advance.new.heads c.facts.ensures c.self.invariant c.in-Some.ensures.least c.in-Some-take.ensures.taken c.coll.ensures c.in-Some-take.ensures.left
    c.pop_ready-next.ensures.left c.in-Some.ensures.rest c.in-Some.ensures.room
    (λ q. c.advance.ensures.places q ∙ ap (λ (o : Option ℕ). cond (option_map_or (λ p. p == q) o false) 1 0 + count_of q c.pop.new.self.places) c.pop_ready-next.ensures.next)
    c.advance.ensures.room

pub returns-clause-taken : goal.returns-clause-taken
returns-clause-taken c =
    let k = is_taken c.in-Some.place c.self.inside.submissions c.self.inside.heads.places c.in-Some-take.context c.facts.ensures c.self.invariant.heads c.in-Some.ensures.least
    c.in-Some-take.ensures.taken in
    sym (ap chosen c.self.view_is) ∙ k.0 ∙ ap (λ (x : Context). Some x) (sym c.queue.ensures)

pub returns-clause-left : goal.returns-clause-left
returns-clause-left c =
    let k = is_taken c.in-Some.place c.self.inside.submissions c.self.inside.heads.places c.in-Some-take.context c.facts.ensures c.self.invariant.heads c.in-Some.ensures.least
    c.in-Some-take.ensures.taken in
    c.take.ensures.left
    ∙ ap (λ (n : ℕ). without_context n c.self.inside.submissions) (sym (ap (λ (x : Context). x.place) c.queue.ensures ∙ k.1.1))
    ∙ ap (without_context c.queue.result.place) c.self.view_is
