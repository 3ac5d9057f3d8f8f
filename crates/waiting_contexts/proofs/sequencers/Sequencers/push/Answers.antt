use Rattle.std.proofs.Common.{◌++◌, ◌∷◌, List, [], Option, Some, unwrap_or, refl, subst, sym, ap, ◌∙◌}
use Rattle.std.specs.Prelude.{IsSome}
use Rattle.std.specs.BTreeMap.{BTreeMap, is_at}
use Rattle.op_sequencer.specs.declared.sequencer.Turn.{Turn}
use Rattle.waiting_contexts.proofs.QueueLemmas.{Name, by_name, at_name, others_stay, same_by_entries, unwritten, inserted, turns_at}
use Rattle.waiting_contexts.proofs.sequencers.Sequencers.push.Goals as goal

pub returns-in-Ok-clause-ok : goal.returns-in-Ok-clause-ok
returns-in-Ok-clause-ok c =
    let there : IsSome (Some c.in-Some.sequencer.now) = refl in
    let updates = (c.get_mut.follows.holds c.push.new.self).3 (subst IsSome c.in-Some.ensures.value there) in
    let added : List Turn → List Turn = λ ts. ts ++ record { place = c.args.place; done = c.args.done } ∷ [] in
    record {
      at = at_name c.args.coll.now c.push.new.self c.args.self.now.by_coll (c.get_mut.follows.lender c.push.new.self) updates
          ∙ c.in-Ok.ensures.ok ∙ ap (λ (o : Option (List Turn)). added (unwrap_or o [])) c.in-Some.ensures.value;
      others = λ q ne. others_stay c.args.coll.now q (Some c.push.new.self) c.args.self.now.by_coll (c.get_mut.follows.lender c.push.new.self) updates ne;
    }

pub returns-in-Err-clause-err : goal.returns-in-Err-clause-err
returns-in-Err-clause-err c =
    same_by_entries c.args.self.now.by_coll (c.get_mut.follows.lender c.push.new.self)
    ((c.get_mut.follows.holds c.push.new.self).0
    ∙ unwritten (is_at (by_name c.args.coll.now)) c.args.self.now.by_coll.entries c.push.new.self c.in-Some.sequencer.now c.in-Err.ensures.err (sym c.in-Some.ensures.value))

pub returns-in_ok-insert-in-None-clause-ok : goal.returns-in_ok-insert-in-None-clause-ok
returns-in_ok-insert-in-None-clause-ok c =
    let added : List Turn → List Turn = λ ts. ts ++ record { place = c.args.place; done = c.args.done } ∷ [] in
    let change = inserted c.args.coll.now c.in_ok-name-in-None.name c.in_ok-made-in-None.made c.get_mut.follows.lender-at-none c.insert.new.self
    c.in_ok-name-in-None.ensures c.in_ok-insert-in-None.ensures.updates in
    record {
      at = change.0 ∙ c.in_ok-made-in-None.ensures ∙ ap (λ (o : Option (List Turn)). added (unwrap_or o [])) c.in-None.ensures.value;
      others = λ q ne. change.1 q ne ∙ ap (λ (m : BTreeMap Name (List Turn)). turns_at m q) c.get_mut.follows.holds-at-none;
    }
