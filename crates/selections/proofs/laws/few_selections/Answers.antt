use Rattle.selections.proofs.Selecting.{fair_none, fair_one}
use Rattle.selections.proofs.laws.few_selections.Goals as goal

pub returns-clause-of_none : goal.returns-clause-of_none
returns-clause-of_none c = λ on some named. fair_none on named some

pub returns-clause-of_one : goal.returns-clause-of_one
returns-clause-of_one c = λ on x some named. fair_one on named x some
