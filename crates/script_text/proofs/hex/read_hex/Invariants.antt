use Rattle.std.proofs.Common.{length}
use Rattle.script_text.specs.Prelude.{hex_pair}
use Rattle.script_text.proofs.Spelled.{IsReadOf}
use Rattle.script_text.proofs.hex.read_hex.Given as goal

abbrev pub invariant-bytes : goal.invariant-bytes
invariant-bytes l = IsReadOf (hex_pair 0x61) l.digits l.bytes.items l.rest

abbrev pub decreases-bytes : goal.decreases-bytes
decreases-bytes l = length l.rest
