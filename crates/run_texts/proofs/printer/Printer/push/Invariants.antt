use Rattle.std.proofs.Common.{length}
use Rattle.run_texts.specs.Prelude.{output}
use Rattle.run_texts.proofs.Adding.{IsAddedUpTo, as_they_are}
use Rattle.run_texts.proofs.printer.Printer.push.Given as goal

abbrev pub invariant-pieces : goal.invariant-pieces
invariant-pieces g l = IsAddedUpTo as_they_are l.left l.bytes l.initial.self l.self (output (g.K.Sink.written l.initial.out) (g.K.Sink.faults l.initial.out))
    (output (g.K.Sink.written l.out) (g.K.Sink.faults l.out))

abbrev pub decreases-pieces : goal.decreases-pieces
decreases-pieces g l = length l.left
