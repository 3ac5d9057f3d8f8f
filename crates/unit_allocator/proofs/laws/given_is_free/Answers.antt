use Rattle.unit_allocator.proofs.FreeUnits.{given_is_free}
use Rattle.unit_allocator.proofs.laws.given_is_free.Goals as goal

pub returns : goal.returns
returns c = given_is_free
