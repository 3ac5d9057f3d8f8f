use Rattle.std.proofs.Common.{◌+◌, ◌≤◌, ◌≡◌, ℕ, Bool, List, cond, ◌∷◌, sym, ap, subst, ◌∙◌, arith}
use Rattle.std.specs.Prelude.{IfSome}
use Rattle.op_sequencer.specs.Turns.{has_turn, done_at}
use Rattle.store_steps.specs.declared.context.Context.{Context}
use Rattle.store_steps.specs.Prelude.{with_context, done_more}
use Rattle.waiting_contexts.specs.Places.{context_at}
use Rattle.waiting_contexts.specs.Heads.{count_of}
use Rattle.waiting_contexts.specs.Queues.{turns_in, ChangesAt}
use Rattle.waiting_contexts.specs.Ties.{IsTied, HaveTurnsOf, is_head}
use Rattle.waiting_contexts.proofs.HeadCounts.{heads_leave_room}
use Rattle.waiting_contexts.proofs.StepLemmas.{done_joins}
use Rattle.waiting_contexts.proofs.TiedLemmas.{Ends, ends_told, same_told, same_tied, keeps_done, turn_there, turns_done, done_tied, coll_after, settled, none_found, head_told}
use Rattle.waiting_contexts.proofs.contexts.Contexts.done.Goals as goal

pub invariant_of-self : goal.invariant_of-self
invariant_of-self c =
    let xs = c.self.inside.submissions in
    subst (λ (ys : List Context). IsTied ys c.self.inside.sequencers c.self.inside.heads) (sym c.done.ensures.done)
    (same_tied c.args.place (done_more c.args.count) xs c.self.inside.sequencers c.self.inside.heads c.facts.ensures (keeps_done c.args.count)
    (same_told c.args.place c.args.count xs c.done.new.self c.done.result c.done.ensures.done c.done.ensures.last c.if-not-done.true) c.self.invariant)

pub unreachable-requires : goal.unreachable-requires
unreachable-requires c =
    let e : Ends c.args.place c.args.count c.self.inside.submissions =
    ends_told c.args.place c.args.count c.self.inside.submissions c.done.new.self c.done.result c.done.ensures.done c.done.ensures.last c.if-not-done.false c.done.ensures.facts
    (subst (λ (xs : List Context). IfSome (context_at c.args.place xs) (λ x. x.done + c.args.count ≤ x.given)) (sym c.self.view_is) c.requires) in
    none_found c.args.place c.args.count c.self.inside.submissions c.done.new.self e c.done.ensures.done c.in_default.ensures

pub io_done-is_ready-requires : goal.io_done-is_ready-requires
io_done-is_ready-requires c =
    let e : Ends c.args.place c.args.count c.self.inside.submissions =
    ends_told c.args.place c.args.count c.self.inside.submissions c.done.new.self c.done.result c.done.ensures.done c.done.ensures.last c.if-not-done.false c.done.ensures.facts
    (subst (λ (xs : List Context). IfSome (context_at c.args.place xs) (λ x. x.done + c.args.count ≤ x.given)) (sym c.self.view_is) c.requires) in
    let name : c.coll.result.now ≡ e.context.coll =
    c.coll.ensures ∙ coll_after c.args.place c.args.count c.self.inside.submissions c.done.new.self c.in-Some.context.now e c.done.ensures.done c.in-Some.ensures in
    ap (λ (n : List ℕ). has_turn c.args.place (turns_in c.self.inside.sequencers n)) name
    ∙ ap (has_turn c.args.place) (c.self.invariant.turns e.context.coll)
    ∙ turn_there c.args.place c.self.inside.submissions e.context e.at

pub settle-requires : goal.settle-requires
settle-requires c =
    let e : Ends c.args.place c.args.count c.self.inside.submissions =
    ends_told c.args.place c.args.count c.self.inside.submissions c.done.new.self c.done.result c.done.ensures.done c.done.ensures.last c.if-not-done.false c.done.ensures.facts
    (subst (λ (xs : List Context). IfSome (context_at c.args.place xs) (λ x. x.done + c.args.count ≤ x.given)) (sym c.self.view_is) c.requires) in
    let joins = done_joins c.args.place (done_more c.args.count) c.self.inside.submissions e.context c.facts.ensures (keeps_done c.args.count) e.at e.was e.now in
    let few = heads_leave_room c.args.place c.self.inside.heads.places c.self.inside.submissions e.context c.self.invariant.heads joins.was e.at in
    omega (arith, few, c.self.invariant.room)

pub invariant_of-self-2 : goal.invariant_of-self-2
invariant_of-self-2 c =
    let e : Ends c.args.place c.args.count c.self.inside.submissions =
    ends_told c.args.place c.args.count c.self.inside.submissions c.done.new.self c.done.result c.done.ensures.done c.done.ensures.last c.if-not-done.false c.done.ensures.facts
    (subst (λ (xs : List Context). IfSome (context_at c.args.place xs) (λ x. x.done + c.args.count ≤ x.given)) (sym c.self.view_is) c.requires) in
    let name : c.coll.result.now ≡ e.context.coll =
    c.coll.ensures ∙ coll_after c.args.place c.args.count c.self.inside.submissions c.done.new.self c.in-Some.context.now e c.done.ensures.done c.in-Some.ensures in
    let changes : ChangesAt e.context.coll (done_at c.args.place (turns_in c.self.inside.sequencers e.context.coll)) c.self.inside.sequencers c.io_done-is_ready.new.self =
    subst (λ (n : List ℕ). ChangesAt n (done_at c.args.place (turns_in c.self.inside.sequencers n)) c.self.inside.sequencers c.io_done-is_ready.new.self) name
    c.io_done-is_ready.ensures.done in
    let turns : HaveTurnsOf (with_context c.args.place (done_more c.args.count) c.self.inside.submissions) c.io_done-is_ready.new.self =
    turns_done c.args.place (done_more c.args.count) c.self.inside.submissions e.context c.self.inside.sequencers c.io_done-is_ready.new.self c.facts.ensures
    (keeps_done c.args.count) e.at e.now c.self.invariant.turns changes in
    let now : HaveTurnsOf c.done.new.self c.io_done-is_ready.new.self = subst (λ (ys : List Context). HaveTurnsOf ys c.io_done-is_ready.new.self) (sym c.done.ensures.done) turns in
    let head : c.io_done-is_ready.result ≡ is_head c.args.place c.done.new.self =
    head_told c.args.place c.done.new.self c.in-Some.context.now c.coll.result.now c.io_done-is_ready.new.self c.io_done-is_ready.result (sym c.in-Some.ensures)
    c.coll.ensures now c.io_done-is_ready.ensures.ready in
    let grown : (q : ℕ) → count_of q c.settle.new.heads.places
    ≡ count_of q (settled c.args.place (with_context c.args.place (done_more c.args.count) c.self.inside.submissions) c.self.inside.heads.places) =
    λ q. c.settle.ensures.places q
    ∙ ap (λ (b : Bool). count_of q (cond b (c.args.place ∷ c.self.inside.heads.places) c.self.inside.heads.places)) head
    ∙ ap (λ (ys : List Context). count_of q (settled c.args.place ys c.self.inside.heads.places)) c.done.ensures.done in
    subst (λ (ys : List Context). IsTied ys c.io_done-is_ready.new.self c.settle.new.heads) (sym c.done.ensures.done)
    (done_tied c.args.place (done_more c.args.count) c.self.inside.submissions e.context c.self.inside.sequencers c.io_done-is_ready.new.self c.self.inside.heads
    c.settle.new.heads c.facts.ensures (keeps_done c.args.count) e.at e.was e.now c.self.invariant turns grown c.settle.ensures.room)
