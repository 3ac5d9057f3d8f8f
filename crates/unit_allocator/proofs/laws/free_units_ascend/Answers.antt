use Rattle.unit_allocator.proofs.FreeUnits.{free_units_ascend}
use Rattle.unit_allocator.proofs.laws.free_units_ascend.Goals as goal

pub returns : goal.returns
returns c = free_units_ascend
