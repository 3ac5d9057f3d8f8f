use Rattle.meta_rows.proofs.RowLemmas.{get-rows_after_other}
use Rattle.meta_rows.proofs.laws.other_rows_stay.Goals as goal

pub returns : goal.returns
returns c = get-rows_after_other
