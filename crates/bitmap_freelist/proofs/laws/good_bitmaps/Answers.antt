use Rattle.bitmap_freelist.proofs.GoodBitmaps.{bitmap_rows, none_zero, marked_is_data, turned_good}
use Rattle.bitmap_freelist.proofs.laws.good_bitmaps.Goals as goal

pub returns-clause-table : goal.returns-clause-table
returns-clause-table c = bitmap_rows

pub returns-clause-some : goal.returns-clause-some
returns-clause-some c = none_zero

pub returns-clause-marked : goal.returns-clause-marked
returns-clause-marked c = marked_is_data

pub returns-clause-turned : goal.returns-clause-turned
returns-clause-turned c = turned_good
