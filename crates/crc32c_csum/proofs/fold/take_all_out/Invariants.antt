use Rattle.std.proofs.Common.{◌≡◌, ◌*◌, drop}
use Rattle.crc32c_csum.specs.Prelude.{remainder, of_taken}
use Rattle.crc32c_csum.proofs.fold.take_all_out.Given as goal

abbrev pub invariant-loop-i : goal.invariant-loop-i
invariant-loop-i l = remainder (of_taken (16 * l.i) l.taken) (drop (16 * l.i) l.piece) ≡ remainder (of_taken 0 l.initial.taken) l.piece
