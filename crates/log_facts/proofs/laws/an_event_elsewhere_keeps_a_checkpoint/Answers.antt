use Rattle.log_facts.proofs.Switching.{rests_push, check_push, next_slot_push}
use Rattle.log_facts.proofs.laws.an_event_elsewhere_keeps_a_checkpoint.Goals as goal

pub returns : goal.returns
returns c = record { rests = rests_push; stands = check_push; next_slot = next_slot_push }
