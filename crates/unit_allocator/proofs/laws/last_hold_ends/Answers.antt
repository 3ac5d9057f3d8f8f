use Rattle.unit_allocator.proofs.FreeUnits.{last_hold_ends}
use Rattle.unit_allocator.proofs.laws.last_hold_ends.Goals as goal

pub returns : goal.returns
returns c = last_hold_ends
