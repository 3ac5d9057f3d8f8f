use Rattle.std.proofs.Common.{◌≡◌, take}
use Rattle.byte_maps.proofs.items.ItemsDuplicate.duplicate.Given as goal

abbrev pub invariant-loop-item : goal.invariant-loop-item
invariant-loop-item g l = l.held.items ≡ take l.item-index l.item-items
