use Rattle.selections.proofs.Nine.{all_fair, no_other_fair}
use Rattle.selections.proofs.laws.nine_are_fair.Goals as goal

pub returns-clause-fair : goal.returns-clause-fair
returns-clause-fair c = all_fair

pub returns-clause-no_other : goal.returns-clause-no_other
returns-clause-no_other c = no_other_fair
