use Rattle.std.proofs.Common.{sym, ap, ◌∙◌}
use Rattle.waiting_contexts.specs.Unsent.{unsent_places}
use Rattle.waiting_contexts.proofs.UnsentLemmas.{same_queue}
use Rattle.waiting_contexts.proofs.submissions.Submissions.done.Goals as goal

pub invariant_of-self : goal.invariant_of-self
invariant_of-self c = c.self.invariant ∙ sym (ap unsent_places c.done.ensures.done ∙ same_queue c.args.place c.args.count c.self.inside.contexts)
