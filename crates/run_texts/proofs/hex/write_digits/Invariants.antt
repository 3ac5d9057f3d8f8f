use Rattle.std.proofs.Common.{◌≡◌, ◌*◌, ◌++◌, take, drop}
use Rattle.run_texts.specs.Prelude.{hex_text}
use Rattle.run_texts.proofs.hex.write_digits.Given as goal

abbrev pub invariant-bytes : goal.invariant-bytes
invariant-bytes l = take (2 * l.i) l.digits ++ hex_text (drop l.i l.bytes) ≡ hex_text l.bytes
