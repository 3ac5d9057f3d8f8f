use Rattle.std.proofs.Common.{◌++◌, ◌∷◌, [], List, is_some, refl, sym, ap, ◌∙◌, append-nil, append_assoc, arith}
use Rattle.store_steps.specs.declared.context.Context.{Context}
use Rattle.store_steps.specs.Prelude.{chosen}
use Rattle.waiting_contexts.proofs.ChoiceLemmas.{some_next, one_longer, one_fewer}
use Rattle.waiting_contexts.proofs.contexts.Contexts.take.Goals as goal

pub loop-init : goal.loop-init
loop-init c = record { taken = sym (append-nil c.args.list.now.items); left = refl; grown = omega arith; room = refl }

pub take_chosen-queued-requires : goal.take_chosen-queued-requires
take_chosen-queued-requires c =
    let there = c.requires.there in
    ap (λ (xs : List Context). is_some (chosen xs)) c.loop.invariant.left
    ∙ some_next c.loop.counter c.args.count c.args.self.now (omega (arith, there, c.loop-test.true))

pub push_reserved-requires : goal.push_reserved-requires
push_reserved-requires c =
    let room = c.requires.room in
    let grown = c.loop.invariant.grown in
    let same = c.loop.invariant.room in
    omega (arith, room, grown, same, c.loop-test.true)

pub loop-preserved : goal.loop-preserved
loop-preserved c =
    let next = sym (ap chosen c.loop.invariant.left) ∙ c.take_chosen-queued.ensures.taken in
    let grown = c.loop.invariant.grown in
    record {
      taken = c.push_reserved.ensures.items ∙ ap (λ (xs : List Context). xs ++ c.take_chosen-queued.result ∷ []) c.loop.invariant.taken
          ∙ append_assoc c.args.list.now.items _ (c.take_chosen-queued.result ∷ [])
          ∙ ap (λ (xs : List Context). c.args.list.now.items ++ xs) (sym (one_longer c.loop.counter c.args.self.now c.take_chosen-queued.result next));
      left = c.take_chosen-queued.ensures.left ∙ sym (one_fewer c.loop.counter c.args.self.now c.take_chosen-queued.result c.loop.self c.loop.invariant.left next);
      grown = omega (arith, grown, c.push_reserved.ensures.len);
      room = c.push_reserved.ensures.capacity ∙ c.loop.invariant.room;
    }
