use Rattle.std.proofs.Common.{◌≡◌, length}
use Rattle.crc32c_csum.specs.Prelude.{remainder}
use Rattle.crc32c_csum.proofs.crc.after_steps.Given as goal

abbrev pub invariant-loop-left : goal.invariant-loop-left
invariant-loop-left l = remainder l.r l.left ≡ remainder l.fn.r l.bytes

abbrev pub decreases-loop-left : goal.decreases-loop-left
decreases-loop-left l = length l.left
