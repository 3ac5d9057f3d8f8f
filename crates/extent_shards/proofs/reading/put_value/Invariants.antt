use Rattle.std.proofs.Common.{length}
use Rattle.extent_shards.proofs.Values.{AreLeft}
use Rattle.extent_shards.proofs.reading.put_value.Given as goal

abbrev pub invariant-extents : goal.invariant-extents
invariant-extents l = AreLeft l.width l.bytes l.fields l.fn.pages l.pages

abbrev pub decreases-extents : goal.decreases-extents
decreases-extents l = length l.fields
