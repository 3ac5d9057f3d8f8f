use Rattle.store_image.proofs.PageUnits.{pages_are_owned}
use Rattle.store_image.proofs.laws.units_with_pages_are_owned.Goals as goal

pub returns : goal.returns
returns c w first rows unit exact = pages_are_owned w rows exact.counts unit
