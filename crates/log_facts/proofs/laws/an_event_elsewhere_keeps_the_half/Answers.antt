use Rattle.log_facts.proofs.Keeping.{half_push}
use Rattle.log_facts.proofs.laws.an_event_elsewhere_keeps_the_half.Goals as goal

pub returns : goal.returns
returns c = half_push
