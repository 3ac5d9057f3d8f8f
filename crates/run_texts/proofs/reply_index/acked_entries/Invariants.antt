use Rattle.std.proofs.Common.{◌≡◌, ◌<◌, ℕ, length, take, get_or, false}
use Rattle.object_model.specs.Prelude.{is_acknowledged}
use Rattle.run_texts.proofs.reply_index.acked_entries.Given as goal

abbrev pub invariant-loop-commit : goal.invariant-loop-commit
invariant-loop-commit l = record {
  count : length l.flags.items ≡ l.count;
  acked : (place : ℕ) → place < l.count → get_or l.flags.items place false ≡ is_acknowledged (take l.commit-index l.commits) place;
}
