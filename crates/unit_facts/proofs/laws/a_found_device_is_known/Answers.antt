use Rattle.unit_facts.proofs.Calls.{opened_known}
use Rattle.unit_facts.proofs.laws.a_found_device_is_known.Goals as goal

pub returns : goal.returns
returns c = opened_known
