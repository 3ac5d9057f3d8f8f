use Rattle.log_facts.proofs.Switching.{switch_slots, switch_rests}
use Rattle.log_facts.proofs.laws.the_halves_change_places.Goals as goal

pub returns : goal.returns
returns c = record { slots = switch_slots; rests = switch_rests }
