use Rattle.book_facts.proofs.Names.{has_one_coll, is_own_coll, own_coll}
use Rattle.book_facts.proofs.laws.a_context_has_one_name.Goals as goal

pub returns-clause-one : goal.returns-clause-one
returns-clause-one c = has_one_coll

pub returns-clause-own : goal.returns-clause-own
returns-clause-own c = is_own_coll

pub returns-clause-no_other : goal.returns-clause-no_other
returns-clause-no_other c = own_coll
