use Rattle.std.proofs.Common.{◌≡◌, ◌+◌, length, take}
use Rattle.meta_rows.specs.Prelude.{joined}
use Rattle.meta_rows.proofs.row_table.merged_at_most.Given as goal

abbrev pub invariant-loop-chunk : goal.invariant-loop-chunk
invariant-loop-chunk l = l.sum ≡ length (joined (take l.chunk-index l.chunks)) + l.fn.ops
