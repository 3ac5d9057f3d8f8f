use Rattle.std.proofs.Common.{length}
use Rattle.bitmap_freelist.proofs.Flipped.{ArePushedTo}
use Rattle.bitmap_freelist.proofs.flips.push_flips.Given as goal

abbrev pub invariant-loop-first : goal.invariant-loop-first
invariant-loop-first l = ArePushedTo l.fn.units l.left l.fn.ops.items l.ops.items

abbrev pub decreases-loop-first : goal.decreases-loop-first
decreases-loop-first l = length l.left
