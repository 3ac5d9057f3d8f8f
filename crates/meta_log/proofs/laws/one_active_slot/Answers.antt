use Rattle.meta_log.proofs.SlotLemmas.{same_active}
use Rattle.meta_log.proofs.laws.one_active_slot.Goals as goal

pub returns : goal.returns
returns c = same_active
