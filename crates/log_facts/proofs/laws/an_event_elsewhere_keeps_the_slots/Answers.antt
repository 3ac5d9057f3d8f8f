use Rattle.log_facts.proofs.Keeping.{slots_push}
use Rattle.log_facts.proofs.laws.an_event_elsewhere_keeps_the_slots.Goals as goal

pub returns : goal.returns
returns c = slots_push
