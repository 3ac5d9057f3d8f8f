use Rattle.std.proofs.Common.{length}
use Rattle.script_text.specs.Prelude.{escape}
use Rattle.script_text.proofs.Spelled.{IsReadOf}
use Rattle.script_text.proofs.escape.unescaped.Given as goal

abbrev pub invariant-bytes : goal.invariant-bytes
invariant-bytes l = IsReadOf escape l.word l.bytes.items l.rest

abbrev pub decreases-bytes : goal.decreases-bytes
decreases-bytes l = length l.rest
