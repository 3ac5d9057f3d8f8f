use Rattle.std.proofs.Common.{take}
use Rattle.shared_blobs.specs.Lowering.{AreLowered}
use Rattle.shared_blobs.proofs.lowering.lower.Given as goal

abbrev pub invariant-loop-slot : goal.invariant-loop-slot
invariant-loop-slot l = AreLowered l.width l.rows.rows (take l.slot-index l.left) l.lowered
