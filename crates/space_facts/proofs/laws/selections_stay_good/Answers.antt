use Rattle.space_facts.proofs.Selected.{selection_good, selection_exact, selection_leaked}
use Rattle.space_facts.proofs.laws.selections_stay_good.Goals as goal

pub returns-clause-good : goal.returns-clause-good
returns-clause-good c = λ sup rows xs some good each fair. selection_good sup rows xs good each some fair

pub returns-clause-exact : goal.returns-clause-exact
returns-clause-exact c = λ sup rows xs some good each fair. selection_exact sup rows xs good each some fair

pub returns-clause-leaked : goal.returns-clause-leaked
returns-clause-leaked c = λ sup rows xs some unit good each homes fair leaked. selection_leaked sup rows xs good each homes unit leaked some fair
