use Rattle.std.proofs.Common.{◌≡◌, ℕ, List, ap, subst, sym, refl, ◌∙◌}
use Rattle.store_steps.specs.declared.context.Context.{Context}
use Rattle.waiting_contexts.specs.Ties.{HaveTurnsOf, is_head}
use Rattle.waiting_contexts.proofs.TiedLemmas.{head_told, found_last, not_lost, above_its_turns, entered_as, withdrawn}
use Rattle.waiting_contexts.proofs.contexts.enter.Goals as goal

pub unreachable-requires : goal.unreachable-requires
unreachable-requires c =
    not_lost c.args.submissions.now c.push.new.self c.args.context c.place-place.result c.requires.above c.place-place.ensures c.in_ok-push.ensures.ok c.in_default.ensures

pub push-requires-2 : goal.push-requires-2
push-requires-2 c =
    above_its_turns c.args.submissions.now c.args.context c.place-place.result c.coll.result.now c.args.sequencers.now c.requires.above c.place-place.ensures c.requires.tied

pub returns-in-Ok-clause-tied : goal.returns-in-Ok-clause-tied
returns-in-Ok-clause-tied c =
    let same : c.in-Some.added.now ≡ c.args.context =
    found_last c.args.submissions.now c.push.new.self c.args.context c.in-Some.added.now c.place-place.result c.requires.above c.place-place.ensures c.in_ok-push.ensures.ok
    c.in-Some.ensures in
    entered_as c.args.submissions.now c.push.new.self c.args.context c.place-place.result c.is_done-is_done.result c.coll.result.now c.args.sequencers.now c.push-2.new.self
    c.requires.tied c.in_ok-push.ensures.ok c.place-place.ensures c.is_done-is_done.ensures (c.coll.ensures ∙ ap (λ (x : Context). x.coll) same) c.in-Ok.ensures.ok

pub returns-in-Ok-clause-ready : goal.returns-in-Ok-clause-ready
returns-in-Ok-clause-ready c =
    let at = sym c.in-Some.ensures ∙ refl in
    let same : c.in-Some.added.now ≡ c.args.context =
    found_last c.args.submissions.now c.push.new.self c.args.context c.in-Some.added.now c.place-place.result c.requires.above c.place-place.ensures c.in_ok-push.ensures.ok
    c.in-Some.ensures in
    subst (λ (n : ℕ). c.in-Ok.ready ≡ is_head n c.push.new.self) c.place-place.ensures
    (head_told c.place-place.result c.push.new.self c.in-Some.added.now c.coll.result.now c.push-2.new.self c.in-Ok.ready at c.coll.ensures (returns-in-Ok-clause-tied c) c.in-Ok.ensures.ready)

pub returns-in-Err-clause-err : goal.returns-in-Err-clause-err
returns-in-Err-clause-err c =
    withdrawn c.args.submissions.now c.push.new.self c.withdraw.new.self c.args.context c.place-place.result c.requires.above c.place-place.ensures c.in_ok-push.ensures.ok
    c.withdraw.ensures.left

pub returns-in-Err-clause-back : goal.returns-in-Err-clause-back
returns-in-Err-clause-back c =
    found_last c.args.submissions.now c.push.new.self c.args.context c.withdraw.result c.place-place.result c.requires.above c.place-place.ensures c.in_ok-push.ensures.ok
    (sym c.withdraw.ensures.taken)

pub returns-in-Err-clause-tied : goal.returns-in-Err-clause-tied
returns-in-Err-clause-tied c =
    let left : c.withdraw.new.self ≡ c.args.submissions.now =
    withdrawn c.args.submissions.now c.push.new.self c.withdraw.new.self c.args.context c.place-place.result c.requires.above c.place-place.ensures c.in_ok-push.ensures.ok
    c.withdraw.ensures.left in
    subst (λ (xs : List Context). HaveTurnsOf xs c.push-2.new.self) (sym left) (λ n. c.in-Err.ensures.err n ∙ c.requires.tied n)
