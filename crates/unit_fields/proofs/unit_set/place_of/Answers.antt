use Rattle.unit_fields.proofs.Ascending.{found_place, behind_all}
use Rattle.unit_fields.proofs.unit_set.place_of.Goals as goal

pub returns-then-is_above_last : goal.returns-then-is_above_last
returns-then-is_above_last c = behind_all c.args.units.now c.args.unit c.requires (c.is_above_last.ensures c.if-is_above_last.true)

pub returns-else-is_above_last : goal.returns-else-is_above_last
returns-else-is_above_last c = found_place c.args.units.now c.args.unit c.binary_search.result c.requires c.binary_search.ensures.position
