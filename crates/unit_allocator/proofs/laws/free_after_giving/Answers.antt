use Rattle.unit_allocator.proofs.FreeUnits.{free_after_giving}
use Rattle.unit_allocator.proofs.laws.free_after_giving.Goals as goal

pub returns : goal.returns
returns c = free_after_giving
