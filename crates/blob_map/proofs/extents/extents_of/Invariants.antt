use Rattle.std.proofs.Common.{◌≡◌, ◌++◌, drop}
use Rattle.std.specs.Prelude.{IfSome}
use Rattle.std.specs.List.{AllByRecursion}
use Rattle.row_format.specs.Prelude.{FitsExtent}
use Rattle.blob_map.specs.Prelude.{extents_finished, extents_of}
use Rattle.blob_map.proofs.extents.extents_of.Given as goal

abbrev pub invariant-loop-entry : goal.invariant-loop-entry
invariant-loop-entry l = (l.done.items ++ extents_finished l.last (drop l.entry-index l.pages) ≡ extents_of l.pages)
    × AllByRecursion (FitsExtent l.width) l.done.items × IfSome l.last (FitsExtent l.width)
