use Rattle.std.proofs.Common.{List, [], Option, Some, unwrap_or, refl, subst, ap, ◌∙◌}
use Rattle.std.specs.Prelude.{IsSome}
use Rattle.op_sequencer.specs.declared.sequencer.Turn.{Turn}
use Rattle.op_sequencer.specs.Turns.{without_ready}
use Rattle.waiting_contexts.proofs.QueueLemmas.{at_name, others_stay}
use Rattle.waiting_contexts.proofs.sequencers.Sequencers.pop_ready.Goals as goal

pub returns-clause-left : goal.returns-clause-left
returns-clause-left c =
    let there : IsSome (Some c.in_ok-sequencer.sequencer.now) = refl in
    let updates = (c.get_mut.follows.holds c.pop_ready.new.self).3 (subst IsSome c.in_ok-sequencer.ensures.value there) in
    record {
      at = at_name c.args.coll.now c.pop_ready.new.self c.args.self.now.by_coll (c.get_mut.follows.lender c.pop_ready.new.self) updates
          ∙ c.pop_ready.ensures.left ∙ ap (λ (o : Option (List Turn)). without_ready (unwrap_or o [])) c.in_ok-sequencer.ensures.value;
      others = λ q ne. others_stay c.args.coll.now q (Some c.pop_ready.new.self) c.args.self.now.by_coll (c.get_mut.follows.lender c.pop_ready.new.self) updates ne;
    }
