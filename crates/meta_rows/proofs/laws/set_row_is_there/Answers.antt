use Rattle.meta_rows.proofs.RowLemmas.{get-insert_same}
use Rattle.meta_rows.proofs.laws.set_row_is_there.Goals as goal

pub returns : goal.returns
returns c = get-insert_same
