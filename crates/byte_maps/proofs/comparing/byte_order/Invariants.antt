use Rattle.std.proofs.Common.{◌≡◌, length}
use Rattle.byte_maps.specs.ByteMap.{byte_order}
use Rattle.byte_maps.proofs.WordLemmas.{AreBytes}
use Rattle.byte_maps.proofs.comparing.byte_order.Given as goal

abbrev pub invariant-loop-here : goal.invariant-loop-here
invariant-loop-here l = record {
  same : byte_order l.one l.other ≡ byte_order l.left l.right;
  left_bytes : AreBytes l.left;
  right_bytes : AreBytes l.right;
}

abbrev pub decreases-loop-here : goal.decreases-loop-here
decreases-loop-here l = length l.left
