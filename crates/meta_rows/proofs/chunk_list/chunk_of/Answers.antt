use Rattle.std.proofs.Common.{◌≡◌, subst}
use Rattle.std.specs.List.Sorted.{IsNonDecreasingBy, IsPartitionPoint}
use Rattle.std.specs.Ordering.{ordering_index}
use Rattle.std.specs.declared.cmp.Ordering.TheVariants.{Less, Greater}
use Rattle.meta_rows.specs.Prelude.{first_order}
use Rattle.meta_rows.proofs.ChunkLemmas.{belongs_equal, belongs_first, belongs_between}
use Rattle.meta_rows.proofs.chunk_list.chunk_of.Goals as goal

pub returns-in-Ok : goal.returns-in-Ok
returns-in-Ok c = belongs_equal c.args.key.now c.args.chunks.now c.requires.none_empty c.requires.order c.in-Ok.at c.in-Ok.ensures.bound c.in-Ok.ensures.position

pub returns-in-Err-eq0 : goal.returns-in-Err-eq0
returns-in-Err-eq0 c =
    belongs_first c.args.key.now c.args.chunks.now c.requires.none_empty c.requires.order c.requires.some (subst (λ at. IsNonDecreasingBy (λ chunk. ordering_index (first_order c.args.key.now chunk)) c.args.chunks.now
    → IsPartitionPoint (λ chunk. first_order c.args.key.now chunk ≡ Less) (λ chunk. first_order c.args.key.now chunk ≡ Greater) c.args.chunks.now at)
    c.in-Err-eq0.field-0-test c.in-Err-eq0.ensures.position)

pub returns-in-Err : goal.returns-in-Err
returns-in-Err c =
    belongs_between c.args.key.now c.args.chunks.now c.requires.none_empty c.requires.order c.in-Err.at c.in-Err.at-test.1 c.in-Err.ensures.bound c.in-Err.ensures.position
