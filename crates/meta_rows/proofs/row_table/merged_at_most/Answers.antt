use Rattle.std.proofs.Common.{◌≡◌, ◌+◌, suc, length, take, ap, arith}
use Rattle.meta_rows.specs.Prelude.{joined}
use Rattle.meta_rows.proofs.ChunkLemmas.{joined_more}
use Rattle.meta_rows.proofs.row_table.merged_at_most.Goals as goal

pub loop-chunk-preserved : goal.loop-chunk-preserved
loop-chunk-preserved c =
    let i = c.loop-chunk.chunk-index in
    let chunks = c.args.chunks.now in
    let on : i + 1 ≡ suc i = omega arith in
    let more = joined_more chunks i c.chunk-item.result c.loop-chunk-test.true in
    let same = ap (λ k. length (joined (take k chunks))) on in
    let here = ap length c.chunk-item.is in
    let g : c.in_ok-sum.sum ≡ length (joined (take (i + 1) chunks)) + c.args.ops = omega (arith, more, same, here, c.len.ensures, c.in_ok-sum.ensures.1, c.loop-chunk.invariant) in g
