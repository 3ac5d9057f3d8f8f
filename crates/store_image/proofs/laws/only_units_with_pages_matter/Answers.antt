use Rattle.store_image.proofs.OwnedUnits.{objects_stand}
use Rattle.store_image.proofs.laws.only_units_with_pages_matter.Goals as goal

pub returns : goal.returns
returns c w at at_other rows objects same p = objects_stand w at at_other rows same objects p
