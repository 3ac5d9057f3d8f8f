use Rattle.read_facts.proofs.Shaped.{have_objects}
use Rattle.read_facts.proofs.laws.rows_have_objects.Goals as goal

pub returns : goal.returns
returns c = have_objects
