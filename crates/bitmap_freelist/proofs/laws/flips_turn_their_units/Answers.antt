use Rattle.bitmap_freelist.proofs.Turning.{turn_their_units}
use Rattle.bitmap_freelist.proofs.laws.flips_turn_their_units.Goals as goal

pub returns : goal.returns
returns c = turn_their_units
