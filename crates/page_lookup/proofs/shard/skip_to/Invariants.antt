use Rattle.std.proofs.Common.{length}
use Rattle.page_lookup.specs.Prelude.{extents_read, LeavesOut}
use Rattle.page_lookup.proofs.shard.skip_to.Given as goal

-- what was left out ends in front of the page
abbrev pub invariant-extents : goal.invariant-extents
invariant-extents l = LeavesOut l.page (extents_read l.width l.bytes) (extents_read l.width l.left)

abbrev pub decreases-extents : goal.decreases-extents
decreases-extents l = length l.left
