use Rattle.space_facts.proofs.Spaces.{released_busy}
use Rattle.space_facts.proofs.laws.released_are_busy.Goals as goal

pub returns : goal.returns
returns c = released_busy
