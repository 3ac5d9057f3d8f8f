use Rattle.meta_log.proofs.SealLemmas.{unit_count-some, unit_count-below}
use Rattle.meta_log.proofs.laws.units_of_a_record.Goals as goal

pub returns : goal.returns
returns c = record { some = unit_count-some; most = unit_count-below }
