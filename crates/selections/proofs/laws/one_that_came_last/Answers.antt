use Rattle.selections.proofs.Selecting.{with_last}
use Rattle.selections.proofs.laws.one_that_came_last.Goals as goal

pub returns : goal.returns
returns c = λ on all x some named fair. with_last on all x some fair (named x).0 (named x).1
