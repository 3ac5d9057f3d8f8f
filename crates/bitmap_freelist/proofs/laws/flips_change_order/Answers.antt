use Rattle.bitmap_freelist.proofs.Turning.{change_order}
use Rattle.bitmap_freelist.proofs.laws.flips_change_order.Goals as goal

pub returns : goal.returns
returns c = change_order
