use Rattle.std.proofs.Common.{◌≡◌, ◌++◌, take}
use Rattle.std.specs.List.{flat_map}
use Rattle.row_format.specs.Prelude.{csum_bytes}
use Rattle.onode_codec.proofs.extent.push_csums.Given as goal

abbrev pub invariant-loop-csum : goal.invariant-loop-csum
invariant-loop-csum l = l.out.items ≡ l.initial.out.items ++ flat_map (csum_bytes l.width) (take l.csum-index l.csums)
