use Rattle.std.proofs.Common.{Some, ◌<◌, ◌^◌, ◌-◌, length}
use Rattle.extent_shards.proofs.Cutting.{IsBegun}
use Rattle.extent_shards.proofs.pushing.push_front.Given as goal

abbrev pub invariant-extents : goal.invariant-extents
invariant-extents l = record { small : l.bytes < 2 ^ 33; front : IsBegun l.width (Some l.bound) l.pages l.count l.bytes l.fn.out.items l.out.items }

abbrev pub decreases-extents : goal.decreases-extents
decreases-extents l = length l.pages - l.count
