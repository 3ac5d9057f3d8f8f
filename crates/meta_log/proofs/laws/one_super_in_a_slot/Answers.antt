use Rattle.meta_log.proofs.SlotLemmas.{same_slot}
use Rattle.meta_log.proofs.laws.one_super_in_a_slot.Goals as goal

pub returns : goal.returns
returns c = same_slot
