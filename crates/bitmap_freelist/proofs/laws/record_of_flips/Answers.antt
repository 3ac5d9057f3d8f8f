use Rattle.bitmap_freelist.proofs.Records.{flips_fit, flips_size, flips_count}
use Rattle.bitmap_freelist.proofs.laws.record_of_flips.Goals as goal

pub returns-clause-fit : goal.returns-clause-fit
returns-clause-fit c = flips_fit

pub returns-clause-size : goal.returns-clause-size
returns-clause-size c = flips_size

pub returns-clause-count : goal.returns-clause-count
returns-clause-count c = flips_count
