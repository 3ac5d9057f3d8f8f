use Rattle.std.proofs.Common.{◌≡◌, take}
use Rattle.meta_rows.proofs.row_table.copied.Given as goal

abbrev pub invariant-loop-chunk : goal.invariant-loop-chunk
invariant-loop-chunk l = l.list.items ≡ take l.chunk-index l.chunks
