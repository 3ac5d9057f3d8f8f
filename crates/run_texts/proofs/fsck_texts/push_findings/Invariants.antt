use Rattle.std.proofs.Common.{drop}
use Rattle.run_texts.specs.Prelude.{output}
use Rattle.run_texts.proofs.Adding.{IsAddedUpTo}
use Rattle.run_texts.proofs.FsckLemmas.{findings_text}
use Rattle.run_texts.proofs.fsck_texts.push_findings.Given as goal

abbrev pub invariant-loop-finding : goal.invariant-loop-finding
invariant-loop-finding g l = IsAddedUpTo findings_text (drop l.finding-index l.found) l.found l.initial.text l.text (output (g.K.Sink.written l.initial.out) (g.K.Sink.faults l.initial.out))
    (output (g.K.Sink.written l.out) (g.K.Sink.faults l.out))
