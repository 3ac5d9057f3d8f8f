use Rattle.read_facts.specs.Prelude.{IsCollection, IsObject}
use Rattle.read_facts.proofs.Walks.{one_order}
use Rattle.read_facts.proofs.Keys.{coll_keys, object_keys}
use Rattle.read_facts.proofs.laws.names_come_in_one_order.Goals as goal

pub returns-clause-colls : goal.returns-clause-colls
returns-clause-colls c = λ rows. one_order (IsCollection rows)

pub returns-clause-objects : goal.returns-clause-objects
returns-clause-objects c = λ rows coll. one_order (IsObject rows coll)

pub returns-clause-coll_keys : goal.returns-clause-coll_keys
returns-clause-coll_keys c = coll_keys

pub returns-clause-object_keys : goal.returns-clause-object_keys
returns-clause-object_keys c = object_keys
