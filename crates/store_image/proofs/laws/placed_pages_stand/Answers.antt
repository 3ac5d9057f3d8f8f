use Rattle.store_image.proofs.PageUnits.{some_unit}
use Rattle.store_image.proofs.laws.placed_pages_stand.Goals as goal

pub returns : goal.returns
returns c s rows good = some_unit s rows good
