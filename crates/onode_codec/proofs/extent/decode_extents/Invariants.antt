use Rattle.std.proofs.Common.{◌≡◌, ◌++◌, length}
use Rattle.std.specs.List.{flat_map, AllByRecursion}
use Rattle.row_format.specs.Prelude.{extent_bytes, FitsExtent}
use Rattle.onode_codec.proofs.extent.decode_extents.Given as goal

abbrev pub invariant-extents : goal.invariant-extents
invariant-extents l = (l.bytes ≡ flat_map (extent_bytes l.width) l.extents.items ++ l.fields) × AllByRecursion (FitsExtent l.width) l.extents.items

abbrev pub decreases-extents : goal.decreases-extents
decreases-extents l = length l.fields
