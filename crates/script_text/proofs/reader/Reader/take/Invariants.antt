use Rattle.std.proofs.Common.{length}
use Rattle.script_text.specs.Prelude.{HasTaken}
use Rattle.script_text.proofs.reader.Reader.take.Given as goal

abbrev pub invariant-lines : goal.invariant-lines
invariant-lines l = HasTaken l.fn.piece l.rest l.initial.self l.self

abbrev pub decreases-lines : goal.decreases-lines
decreases-lines l = length l.rest
