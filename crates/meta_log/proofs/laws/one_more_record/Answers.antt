use Rattle.meta_rows.proofs.Folds.{rows_of_records-push}
use Rattle.meta_log.proofs.laws.one_more_record.Goals as goal

pub returns : goal.returns
returns c = rows_of_records-push
