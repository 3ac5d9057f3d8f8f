use Rattle.std.proofs.Common.{drop}
use Rattle.run_texts.specs.Prelude.{output, names_text}
use Rattle.run_texts.proofs.Adding.{IsAddedUpTo}
use Rattle.run_texts.proofs.replies.push_names.Given as goal

abbrev pub invariant-loop-name : goal.invariant-loop-name
invariant-loop-name g l = IsAddedUpTo names_text (drop l.name-index l.names) l.names l.initial.text l.text (output (g.K.Sink.written l.initial.out) (g.K.Sink.faults l.initial.out))
    (output (g.K.Sink.written l.out) (g.K.Sink.faults l.out))
