use Rattle.unit_allocator.proofs.FreeUnits.{given_while_held}
use Rattle.unit_allocator.proofs.laws.given_while_held.Goals as goal

pub returns : goal.returns
returns c = given_while_held
