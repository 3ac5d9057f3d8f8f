use Rattle.unit_allocator.proofs.FreeUnits.{listed_is_within}
use Rattle.unit_allocator.proofs.laws.listed_is_within.Goals as goal

pub returns : goal.returns
returns c = listed_is_within
