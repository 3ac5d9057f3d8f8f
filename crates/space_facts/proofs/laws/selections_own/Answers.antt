use Rattle.space_facts.proofs.Selected.{selection_owns}
use Rattle.space_facts.proofs.laws.selections_own.Goals as goal

pub returns : goal.returns
returns c = λ sup rows xs some good each apart fair. selection_owns sup rows xs good each apart some fair
