use Rattle.bitmap_freelist.proofs.Turning.{stay_in_table, stay_some}
use Rattle.bitmap_freelist.proofs.laws.flips_stay_in_the_table.Goals as goal

pub returns-clause-table : goal.returns-clause-table
returns-clause-table c = stay_in_table

pub returns-clause-some : goal.returns-clause-some
returns-clause-some c = stay_some
