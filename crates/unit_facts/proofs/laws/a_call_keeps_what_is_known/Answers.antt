use Rattle.unit_facts.proofs.Calls.{call_keeps}
use Rattle.unit_facts.proofs.laws.a_call_keeps_what_is_known.Goals as goal

pub returns : goal.returns
returns c = call_keeps
