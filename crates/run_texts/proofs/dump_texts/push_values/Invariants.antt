use Rattle.std.proofs.Common.{drop}
use Rattle.run_texts.specs.Prelude.{output}
use Rattle.run_texts.proofs.Adding.{IsAddedUpTo}
use Rattle.run_texts.proofs.DumpLemmas.{values_text}
use Rattle.run_texts.proofs.dump_texts.push_values.Given as goal

abbrev pub invariant-loop-value : goal.invariant-loop-value
invariant-loop-value g l = IsAddedUpTo (values_text l.word) (drop l.value-index l.values) l.values l.initial.text l.text (output (g.K.Sink.written l.initial.out) (g.K.Sink.faults l.initial.out))
    (output (g.K.Sink.written l.out) (g.K.Sink.faults l.out))
