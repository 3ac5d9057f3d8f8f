use Rattle.std.proofs.Common.{◌≡◌, ◌++◌, take}
use Rattle.std.specs.List.{flat_map}
use Rattle.row_format.specs.Prelude.{slot_bytes}
use Rattle.shared_blobs.proofs.shared_blob.push_slots.Given as goal

abbrev pub invariant-loop-slot : goal.invariant-loop-slot
invariant-loop-slot l = l.out.items ≡ l.initial.out.items ++ flat_map (slot_bytes l.width) (take l.slot-index l.slots)
