use Rattle.meta_rows.proofs.RowLemmas.{size-rows_after}
use Rattle.meta_rows.proofs.laws.rows_grow_by_their_operations.Goals as goal

pub returns : goal.returns
returns c = size-rows_after
