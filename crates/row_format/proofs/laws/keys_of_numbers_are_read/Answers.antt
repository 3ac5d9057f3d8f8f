use Rattle.row_format.proofs.ThingLemmas.{deferred_again, shared_again, bitmap_again}
use Rattle.row_format.proofs.laws.keys_of_numbers_are_read.Goals as goal

pub returns-clause-deferred : goal.returns-clause-deferred
returns-clause-deferred c = deferred_again

pub returns-clause-shared : goal.returns-clause-shared
returns-clause-shared c = shared_again

pub returns-clause-bitmaps : goal.returns-clause-bitmaps
returns-clause-bitmaps c = bitmap_again
