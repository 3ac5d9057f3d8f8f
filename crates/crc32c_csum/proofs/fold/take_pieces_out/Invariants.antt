use Rattle.std.proofs.Common.{◌≡◌, ◌≤◌, length}
use Rattle.crc32c_csum.specs.Prelude.{remainder, of_taken}
use Rattle.crc32c_csum.proofs.fold.take_pieces_out.Given as goal

abbrev pub invariant-loop-left : goal.invariant-loop-left
invariant-loop-left l = (remainder (of_taken 0 l.taken) l.left ≡ remainder (of_taken 0 l.initial.taken) l.bytes) × (304 ≤ length l.left)

abbrev pub decreases-loop-left : goal.decreases-loop-left
decreases-loop-left l = length l.left
