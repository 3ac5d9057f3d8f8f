use Rattle.unit_allocator.proofs.FreeUnits.{range_stays}
use Rattle.unit_allocator.proofs.laws.range_stays.Goals as goal

pub returns : goal.returns
returns c = range_stays
