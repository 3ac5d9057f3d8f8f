use Rattle.run_facts.proofs.Known.{flush_covers, sync_covers}
use Rattle.run_facts.proofs.SwitchKnown.{check_covers, slot_covers}
use Rattle.run_facts.proofs.laws.flushes_cover.Goals as goal

pub returns-clause-flush : goal.returns-clause-flush
returns-clause-flush c = flush_covers

pub returns-clause-sync : goal.returns-clause-sync
returns-clause-sync c = sync_covers

pub returns-clause-check : goal.returns-clause-check
returns-clause-check c = check_covers

pub returns-clause-slot : goal.returns-clause-slot
returns-clause-slot c = slot_covers
