use Rattle.bitmap_freelist.specs.Masks.{AddsUpTo}
use Rattle.bitmap_freelist.proofs.marks.insert_marked.Given as goal

abbrev pub invariant-loop-place : goal.invariant-loop-place
invariant-loop-place l = AddsUpTo l.place l.fn.row l.fn.value l.initial.units l.units
