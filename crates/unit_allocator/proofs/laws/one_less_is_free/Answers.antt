use Rattle.unit_allocator.proofs.FreeUnits.{one_less_is_free}
use Rattle.unit_allocator.proofs.laws.one_less_is_free.Goals as goal

pub returns : goal.returns
returns c = one_less_is_free
