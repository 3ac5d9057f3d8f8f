use Rattle.row_facts.proofs.ValueRows.{no_attribute, no_header, no_pair}
use Rattle.row_facts.proofs.laws.missing_objects_have_no_values.Goals as goal

pub returns-clause-attributes : goal.returns-clause-attributes
returns-clause-attributes c s rows coll object name good named is missing = no_attribute s rows coll object good named is missing name

pub returns-clause-headers : goal.returns-clause-headers
returns-clause-headers c s rows coll object good named is missing = no_header s rows coll object good named is missing

pub returns-clause-pairs : goal.returns-clause-pairs
returns-clause-pairs c s rows coll object key good named is missing = no_pair s rows coll object good named is missing key
