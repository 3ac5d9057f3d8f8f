use Rattle.byte_maps.proofs.UnitLemmas.{same_units}
use Rattle.byte_maps.proofs.theorems.equal_unit_by_unit.Goals as goal

pub returns : goal.returns
returns c alike = same_units c.args.count c.args.one.now c.args.other.now c.requires.ones c.requires.others alike
