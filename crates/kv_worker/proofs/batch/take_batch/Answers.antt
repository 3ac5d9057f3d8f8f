use Rattle.std.proofs.Common.{◌++◌, List, length, sym, ap, ◌∙◌}
use Rattle.store_steps.specs.declared.context.Context.{Context}
use Rattle.store_steps.specs.Prelude.{most_grouped, choice, left_by}
use Rattle.waiting_contexts.proofs.ChoiceLemmas.{all_chosen, all_left}
use Rattle.kv_worker.proofs.batch.take_batch.Goals as goal

pub take-requires-clause-there : goal.take-requires-clause-there
take-requires-clause-there c =
    ap (λ n. length (choice n c.args.contexts.now)) c.requires
    ∙ ap (λ (xs : List Context). length xs) (all_chosen most_grouped c.args.contexts.now) ∙ sym c.requires

pub returns-clause-ok : goal.returns-clause-ok
returns-clause-ok c = record {
  is = c.take.ensures.taken ∙ ap (λ (xs : List Context). xs ++ choice c.args.count c.args.contexts.now) c.in_ok-queued.ensures.items
      ∙ ap (λ n. choice n c.args.contexts.now) c.requires ∙ all_chosen most_grouped c.args.contexts.now;
  left = c.take.ensures.left ∙ ap (λ n. left_by n c.args.contexts.now) c.requires ∙ all_left most_grouped c.args.contexts.now;
}
