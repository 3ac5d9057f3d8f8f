use Rattle.std.proofs.Common.{List, [], Option, Some, unwrap_or, refl, subst, ap, ◌∙◌}
use Rattle.std.specs.Prelude.{IsSome}
use Rattle.op_sequencer.specs.declared.sequencer.Turn.{Turn}
use Rattle.op_sequencer.specs.Turns.{done_at}
use Rattle.waiting_contexts.proofs.QueueLemmas.{at_name, others_stay}
use Rattle.waiting_contexts.proofs.sequencers.Sequencers.io_done.Goals as goal

pub returns-clause-done : goal.returns-clause-done
returns-clause-done c =
    let there : IsSome (Some c.in-Some.sequencer.now) = refl in
    let updates = (c.get_mut.follows.holds c.io_done.new.self).3 (subst IsSome c.in-Some.ensures.value there) in
    record {
      at = at_name c.args.coll.now c.io_done.new.self c.args.self.now.by_coll (c.get_mut.follows.lender c.io_done.new.self) updates
          ∙ c.io_done.ensures ∙ ap (λ (o : Option (List Turn)). done_at c.args.place (unwrap_or o [])) c.in-Some.ensures.value;
      others = λ q ne. others_stay c.args.coll.now q (Some c.io_done.new.self) c.args.self.now.by_coll (c.get_mut.follows.lender c.io_done.new.self) updates ne;
    }
