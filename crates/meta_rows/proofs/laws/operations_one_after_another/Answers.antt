use Rattle.meta_rows.proofs.Folds.{rows_after-append}
use Rattle.meta_rows.proofs.laws.operations_one_after_another.Goals as goal

pub returns : goal.returns
returns c = rows_after-append
