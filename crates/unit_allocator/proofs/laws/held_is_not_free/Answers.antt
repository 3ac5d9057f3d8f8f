use Rattle.unit_allocator.proofs.FreeUnits.{held_is_not_free}
use Rattle.unit_allocator.proofs.laws.held_is_not_free.Goals as goal

pub returns : goal.returns
returns c = held_is_not_free
