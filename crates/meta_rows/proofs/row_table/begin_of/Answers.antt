use Rattle.std.proofs.Common.{sym, subst, T}
use Rattle.std.specs.FinMap.{is_sorted}
use Rattle.byte_maps.specs.ByteMap.{byte_order}
use Rattle.meta_rows.specs.Prelude.{StartsAt}
use Rattle.meta_rows.proofs.TableLemmas.{rows_order, begins_there}
use Rattle.meta_rows.proofs.row_table.begin_of.Goals as goal

pub start_of-requires : goal.start_of-requires
start_of-requires c =
    subst (λ es. T (is_sorted byte_order es)) (sym c.rows.ensures) (rows_order c.args.key.now c.args.chunks.now c.chunk_of-at.result 0 c.index-chunks-at.result
    c.chunk_of-at.ensures c.requires.order c.index-chunks-at.is)

pub returns-clause-begins : goal.returns-clause-begins
returns-clause-begins c =
    begins_there c.args.key.now c.args.chunks.now c.chunk_of-at.result c.start_of.result c.index-chunks-at.result c.chunk_of-at.ensures c.requires.order
    c.index-chunks-at.is (subst (λ es. StartsAt c.args.key.now es c.start_of.result) c.rows.ensures c.start_of.ensures)
