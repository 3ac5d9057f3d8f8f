use Rattle.std.proofs.Common.{◌≡◌, ◌*◌, drop}
use Rattle.std.specs.Prelude.{bit_xor}
use Rattle.crc32c_csum.specs.Prelude.{remainder, of_taken}
use Rattle.crc32c_csum.proofs.fold.of_last.Given as goal

abbrev pub invariant-loop-i : goal.invariant-loop-i
invariant-loop-i l = remainder (bit_xor (of_taken (16 * l.i) l.last) l.r) (drop (16 * l.i) l.stay) ≡ remainder (of_taken 0 l.last) l.stay
