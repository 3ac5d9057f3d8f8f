use Rattle.std.proofs.Common.{drop}
use Rattle.run_texts.specs.Prelude.{output}
use Rattle.run_texts.proofs.Adding.{IsAddedUpTo}
use Rattle.script_text.specs.Prelude.{escaped}
use Rattle.run_texts.proofs.names.push_name.Given as goal

abbrev pub invariant-loop-byte : goal.invariant-loop-byte
invariant-loop-byte g l = IsAddedUpTo escaped (drop l.byte-index l.name) l.name l.initial.text l.text (output (g.K.Sink.written l.initial.out) (g.K.Sink.faults l.initial.out))
    (output (g.K.Sink.written l.out) (g.K.Sink.faults l.out))
