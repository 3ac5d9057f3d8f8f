use Rattle.unit_allocator.proofs.FreeUnits.{lowest_is_free}
use Rattle.unit_allocator.proofs.laws.lowest_is_free.Goals as goal

pub returns : goal.returns
returns c = lowest_is_free
