use Rattle.bstore_top.proofs.GoodStarts.{good_start}
use Rattle.bstore_top.proofs.laws.a_good_start_ends_well.Goals as goal

pub returns : goal.returns
returns c = good_start
