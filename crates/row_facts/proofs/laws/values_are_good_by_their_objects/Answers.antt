use Rattle.row_facts.proofs.ValueRows.{attribute_is, header_is, pair_is}
use Rattle.row_facts.proofs.laws.values_are_good_by_their_objects.Goals as goal

pub returns-clause-attributes : goal.returns-clause-attributes
returns-clause-attributes c s rows coll object name value named is = attribute_is s rows coll object named is name value

pub returns-clause-headers : goal.returns-clause-headers
returns-clause-headers c s rows coll object value named is = header_is s rows coll object named is value

pub returns-clause-pairs : goal.returns-clause-pairs
returns-clause-pairs c s rows coll object key value named is = pair_is s rows coll object named is key value
