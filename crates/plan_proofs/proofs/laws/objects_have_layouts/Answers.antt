use Rattle.plan_proofs.proofs.LayoutOf.{object_in_rows}
use Rattle.plan_proofs.proofs.Layouts.{all_layouts}
use Rattle.plan_proofs.proofs.laws.objects_have_layouts.Goals as goal

pub returns-clause-one : goal.returns-clause-one
returns-clause-one c s rows coll o good coll_name name = let found = object_in_rows s rows coll o good coll_name name in (found.layout, found.has)

pub returns-clause-all : goal.returns-clause-all
returns-clause-all c = all_layouts
