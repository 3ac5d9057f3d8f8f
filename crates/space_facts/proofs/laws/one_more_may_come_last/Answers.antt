use Rattle.space_facts.proofs.Joining.{suits_last, rows_last}
use Rattle.space_facts.proofs.laws.one_more_may_come_last.Goals as goal

pub returns-clause-rows : goal.returns-clause-rows
returns-clause-rows c = λ sup rows xs some x limits good each apart homes can has. rows_last sup rows xs x limits good each apart homes can some has

pub returns-clause-suits : goal.returns-clause-suits
returns-clause-suits c = λ sup rows xs some x limits good each apart homes can has. suits_last sup rows xs x limits good each apart homes can some has
