use Rattle.store_image.proofs.Counting.{one_count}
use Rattle.store_image.proofs.laws.one_count_for_a_slot.Goals as goal

pub returns : goal.returns
returns c = one_count
