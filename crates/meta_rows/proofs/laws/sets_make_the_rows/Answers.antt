use Rattle.meta_rows.proofs.SetLemmas.{rows_made, row_sets_size, rows_fit}
use Rattle.meta_rows.proofs.laws.sets_make_the_rows.Goals as goal

pub returns : goal.returns
returns c = record { made = rows_made; fit = rows_fit; size = row_sets_size }
