use Rattle.std.proofs.Common.{◌+◌, List, sym, subst, arith}
use Rattle.store_steps.specs.declared.context.Context.{Context}
use Rattle.waiting_contexts.specs.Choices.{IsChoiceOf}
use Rattle.waiting_contexts.proofs.ChoiceLemmas.{choice_ends, one_picked, one_more_of}
use Rattle.waiting_contexts.proofs.choosing.pick.Goals as goal

pub returns-in_default-clause-chosen : goal.returns-in_default-clause-chosen
returns-in_default-clause-chosen c =
    subst (λ (zs : List Context). IsChoiceOf zs c.loop-picked.picked)
    (sym (choice_ends c.loop-picked.picked.count c.args.most c.args.submissions.now c.in_default.ensures.none c.loop-picked.invariant.within))
    c.loop-picked.invariant.chosen

pub loop-picked-preserved : goal.loop-picked-preserved
loop-picked-preserved c =
    let beside_room = c.in-Some.ensures.beside_room in
    let back_room = c.in-Some.ensures.back_room in
    let beside = c.loop-picked.invariant.beside in
    let back = c.loop-picked.invariant.back in
    record {
      within = omega arith;
      from = one_picked c.args.submissions.now c.loop-picked.picked.count c.in-Some.bytes c.args.hand.now c.loop-picked.hand c.loop-picked.beside
          c.loop-picked.back c.pick_one.new.hand c.pick_one.new.beside c.pick_one.new.back c.loop-picked.invariant.from c.in-Some.ensures;
      chosen = one_more_of c.args.submissions.now c.loop-picked.picked.count c.in-Some.bytes c.loop-picked.picked
          (record { count = c.loop-picked.picked.count + 1; bytes = c.saturating_add.result }) c.in-Some.ensures.context c.in-Some.ensures.is_chosen
          c.loop-picked.invariant.chosen c.in-Some.ensures.bytes_are (λ small. omega (arith, c.saturating_add.ensures, small)) (omega arith);
      beside = omega (arith, beside_room, beside);
      back = omega (arith, back_room, back);
    }
