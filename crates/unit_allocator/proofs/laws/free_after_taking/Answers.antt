use Rattle.unit_allocator.proofs.FreeUnits.{free_after_taking}
use Rattle.unit_allocator.proofs.laws.free_after_taking.Goals as goal

pub returns : goal.returns
returns c = free_after_taking
