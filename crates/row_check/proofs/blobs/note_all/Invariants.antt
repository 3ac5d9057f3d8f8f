use Rattle.std.proofs.Common.{◌≡◌, drop}
use Rattle.row_check.specs.Named.{all_named}
use Rattle.row_check.proofs.blobs.note_all.Given as goal

abbrev pub invariant-loop-extent : goal.invariant-loop-extent
invariant-loop-extent l = all_named l.coll l.namers (drop l.extent-index l.extents) ≡ all_named l.coll l.initial.namers l.extents
