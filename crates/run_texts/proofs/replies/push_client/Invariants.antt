use Rattle.std.proofs.Common.{length, ◌-◌}
use Rattle.run_texts.specs.Prelude.{output}
use Rattle.run_texts.proofs.IndexLemmas.{IsPushedUpTo}
use Rattle.run_texts.proofs.replies.push_client.Given as goal

abbrev pub invariant-loop-place : goal.invariant-loop-place
invariant-loop-place g l = IsPushedUpTo l.fn.book.commits l.client l.fn.book.entries l.place l.initial.text l.text
    (output (g.K.Sink.written l.initial.out) (g.K.Sink.faults l.initial.out)) (output (g.K.Sink.written l.out) (g.K.Sink.faults l.out))

abbrev pub decreases-loop-place : goal.decreases-loop-place
decreases-loop-place g l = length l.entries - l.place
