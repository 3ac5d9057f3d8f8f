use Rattle.log_facts.proofs.Mounting.{fresh_slots, fresh_half}
use Rattle.log_facts.proofs.laws.a_fresh_log.Goals as goal

pub returns : goal.returns
returns c = record { slots = fresh_slots; half = fresh_half }
