use Rattle.unit_allocator.proofs.FreeUnits.{taken_is_not_free}
use Rattle.unit_allocator.proofs.laws.taken_is_not_free.Goals as goal

pub returns : goal.returns
returns c = taken_is_not_free
