use Rattle.std.proofs.Common.{◌≡◌, true}
use Rattle.selections.proofs.Selecting.{fair_nil, complete_is_fair, fair_front, fair_behind, fair_among, by_fronts}
use Rattle.selections.proofs.laws.fair_selections.Goals as goal

pub returns-clause-nothing : goal.returns-clause-nothing
returns-clause-nothing c = λ on. fair_nil on

pub returns-clause-complete : goal.returns-clause-complete
returns-clause-complete c = λ on. complete_is_fair on

pub returns-clause-front : goal.returns-clause-front
returns-clause-front c = λ on. fair_front on

pub returns-clause-behind : goal.returns-clause-behind
returns-clause-behind c = λ on. fair_behind on

pub returns-clause-among : goal.returns-clause-among
returns-clause-among c = λ on. fair_among on

pub returns-clause-fronts : goal.returns-clause-fronts
returns-clause-fronts c = λ on all p. by_fronts on all (λ l. p l ≡ true)
