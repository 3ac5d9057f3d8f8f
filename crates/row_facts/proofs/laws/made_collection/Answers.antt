use Rattle.row_facts.proofs.CollMade.{coll_stands, coll_owned}
use Rattle.row_facts.proofs.laws.made_collection.Goals as goal

pub returns-clause-stand : goal.returns-clause-stand
returns-clause-stand c = coll_stands

pub returns-clause-owned : goal.returns-clause-owned
returns-clause-owned c = coll_owned
