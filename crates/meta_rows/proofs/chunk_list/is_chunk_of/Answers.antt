use Rattle.std.proofs.Common.{◌≡◌, ◌<◌, [], get_or, arith}
use Rattle.std.specs.declared.cmp.Ordering.TheVariants.{Greater}
use Rattle.meta_rows.specs.Prelude.{first_order}
use Rattle.meta_rows.proofs.ChunkLemmas.{belongs_here}
use Rattle.meta_rows.proofs.chunk_list.is_chunk_of.Goals.{else-at-gt0-via-then-at-gt0+else-begins_above, else-at-gt0-via-else-at-gt0}
use Rattle.meta_rows.proofs.chunk_list.is_chunk_of.Goals as goal

pub returns : goal.returns
returns c = λ yes.
    let low : 0 < c.args.at → first_order c.args.key.now (get_or c.args.chunks.now c.args.at []) ≡ Greater → ⊥ =
    elim c.else-at-gt0.branch [
      | else-at-gt0-via-then-at-gt0+else-begins_above w ↦ λ p. w.begins_above.ensures.not_above w.if-begins_above.false
      | else-at-gt0-via-else-at-gt0 w ↦ λ p. absurd (omega (arith, p, w.if-at-gt0.false))
    ] in
    belongs_here c.args.key.now c.args.chunks.now c.requires.none_empty c.requires.order c.args.at c.if-chunks-at.false low (c.ends_above.ensures yes)
