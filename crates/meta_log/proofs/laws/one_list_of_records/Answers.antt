use Rattle.meta_log.proofs.RecordLemmas.{same_records}
use Rattle.meta_log.proofs.laws.one_list_of_records.Goals as goal

pub returns : goal.returns
returns c = same_records
