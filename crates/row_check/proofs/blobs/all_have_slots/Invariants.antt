use Rattle.std.proofs.Common.{take}
use Rattle.std.specs.List.{AllByRecursion}
use Rattle.store_image.specs.Prelude.{HasSlots}
use Rattle.row_check.proofs.blobs.all_have_slots.Given as goal

abbrev pub invariant-loop-extent : goal.invariant-loop-extent
invariant-loop-extent l = AllByRecursion (λ e. HasSlots l.width l.rows.rows l.coll e.body) (take l.extent-index l.extents)
