use Rattle.std.proofs.Common.{◌≡◌, ℕ, List, length, sym, ap, subst, arith}
use Rattle.store_steps.specs.declared.context.Context.{Context}
use Rattle.waiting_contexts.specs.Places.{IsAboveAll}
use Rattle.waiting_contexts.proofs.HeadCounts.{heads_fit}
use Rattle.waiting_contexts.proofs.TiedLemmas.{pushed_as}
use Rattle.waiting_contexts.proofs.contexts.Contexts.push.Goals as goal

pub settle-requires : goal.settle-requires
settle-requires c =
    let same : length c.make_room.new.self.places ≡ length c.self.inside.heads.places = ap (λ (ps : List ℕ). length ps) c.make_room.ensures.same in
    omega (arith, same, c.in-Ok.ensures.room, c.most-most.ensures.most, heads_fit c.self.inside.heads.places c.self.inside.submissions c.self.invariant.heads)

pub invariant_of-self-in-Ok-enter : goal.invariant_of-self-in-Ok-enter
invariant_of-self-in-Ok-enter c =
    let above : IsAboveAll c.args.context.place c.self.inside.submissions = subst (λ (xs : List Context). IsAboveAll c.args.context.place xs) (sym c.self.view_is) c.requires in
    pushed_as c.self.inside.submissions c.enter.new.submissions c.args.context c.place-place.result c.most-most.result c.in-Ok-enter.is_ready c.enter.new.sequencers
    c.self.inside.heads c.make_room.new.self c.settle.new.heads above c.in-Ok-enter.ensures.ok c.place-place.ensures c.self.invariant.heads c.make_room.ensures.same
    c.enter.ensures.tied c.in-Ok-enter.ensures.ready c.settle.ensures.places c.most-most.ensures.most c.in-Ok.ensures.room c.settle.ensures.room
