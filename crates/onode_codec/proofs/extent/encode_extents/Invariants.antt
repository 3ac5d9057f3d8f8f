use Rattle.std.proofs.Common.{◌≡◌, take}
use Rattle.std.specs.List.{flat_map}
use Rattle.row_format.specs.Prelude.{extent_bytes}
use Rattle.onode_codec.proofs.extent.encode_extents.Given as goal

abbrev pub invariant-loop-extent : goal.invariant-loop-extent
invariant-loop-extent l = l.out.items ≡ flat_map (extent_bytes l.width) (take l.extent-index l.extents)
