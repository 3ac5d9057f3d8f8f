use Rattle.store_image.proofs.PageUnits.{one_unit}
use Rattle.store_image.proofs.laws.one_unit_for_a_place.Goals as goal

pub returns : goal.returns
returns c = one_unit
