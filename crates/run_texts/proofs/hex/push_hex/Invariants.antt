use Rattle.std.proofs.Common.{length}
use Rattle.run_texts.specs.Prelude.{output, hex_text}
use Rattle.run_texts.proofs.Adding.{IsAddedUpTo}
use Rattle.run_texts.proofs.hex.push_hex.Given as goal

abbrev pub invariant-pieces : goal.invariant-pieces
invariant-pieces g l = IsAddedUpTo hex_text l.left l.bytes l.initial.text l.text (output (g.K.Sink.written l.initial.out) (g.K.Sink.faults l.initial.out))
    (output (g.K.Sink.written l.out) (g.K.Sink.faults l.out))

abbrev pub decreases-pieces : goal.decreases-pieces
decreases-pieces g l = length l.left
