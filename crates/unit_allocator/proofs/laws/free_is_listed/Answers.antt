use Rattle.unit_allocator.proofs.FreeUnits.{free_is_listed}
use Rattle.unit_allocator.proofs.laws.free_is_listed.Goals as goal

pub returns : goal.returns
returns c = free_is_listed
