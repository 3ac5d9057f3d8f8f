use Rattle.row_facts.proofs.NoRows.{none_stand, none_owned, none_exact}
use Rattle.row_facts.proofs.laws.no_rows.Goals as goal

pub returns-clause-stand : goal.returns-clause-stand
returns-clause-stand c = none_stand

pub returns-clause-owned : goal.returns-clause-owned
returns-clause-owned c = none_owned

pub returns-clause-exact : goal.returns-clause-exact
returns-clause-exact c = none_exact
