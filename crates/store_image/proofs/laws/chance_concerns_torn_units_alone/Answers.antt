use Rattle.store_image.proofs.ChanceLemmas.{chance_from_torn, torn_from_chance}
use Rattle.store_image.proofs.laws.chance_concerns_torn_units_alone.Goals as goal

pub returns : goal.returns
returns c start log image is = (torn_from_chance start log image is, chance_from_torn start log image is)
