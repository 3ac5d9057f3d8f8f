use Rattle.unit_allocator.proofs.Fresh.{new_is_unheld}
use Rattle.unit_allocator.proofs.laws.new_is_unheld.Goals as goal

pub returns : goal.returns
returns c = new_is_unheld
