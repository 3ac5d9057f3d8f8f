use Rattle.std.proofs.Common.{◌≡◌, ◌<◌, ◌+◌, ◌^◌, length, drop}
use Rattle.meta_rows.specs.Prelude.{joined}
use Rattle.meta_rows.proofs.row_table.rows_in.Given as goal

abbrev pub invariant-loop-chunk : goal.invariant-loop-chunk
invariant-loop-chunk l = length (joined l.chunks) < 2 ^ 64 → l.sum + length (joined (drop l.chunk-index l.chunks)) ≡ length (joined l.chunks)
