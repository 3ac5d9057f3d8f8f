use Rattle.std.proofs.Common.{◌≡◌, take}
use Rattle.run_texts.specs.Prelude.{answers_of}
use Rattle.run_texts.proofs.replies.count.Given as goal

abbrev pub invariant-loop-entry : goal.invariant-loop-entry
invariant-loop-entry l = l.count ≡ answers_of l.kind (take l.entry-index l.entries)
