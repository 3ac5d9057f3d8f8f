use Rattle.flight_facts.proofs.Unflown.{flush_unflown, sync_unflown, check_unflown, slot_unflown, slot_flush_unflown}
use Rattle.flight_facts.proofs.laws.flushed_units_have_landed.Goals as goal

pub returns-clause-flush : goal.returns-clause-flush
returns-clause-flush c = flush_unflown

pub returns-clause-sync : goal.returns-clause-sync
returns-clause-sync c = sync_unflown

pub returns-clause-check : goal.returns-clause-check
returns-clause-check c = check_unflown

pub returns-clause-slot : goal.returns-clause-slot
returns-clause-slot c = slot_unflown

pub returns-clause-slot_flush : goal.returns-clause-slot_flush
returns-clause-slot_flush c = slot_flush_unflown
