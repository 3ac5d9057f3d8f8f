use Rattle.object_model.proofs.Names.{has_one_name, is_own, own_name}
use Rattle.object_model.proofs.laws.a_transaction_has_one_name.Goals as goal

pub returns-clause-one : goal.returns-clause-one
returns-clause-one c = has_one_name

pub returns-clause-own : goal.returns-clause-own
returns-clause-own c = is_own

pub returns-clause-no_other : goal.returns-clause-no_other
returns-clause-no_other c = own_name
