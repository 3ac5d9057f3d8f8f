use Rattle.run_facts.proofs.Footprints.{footprint_of}
use Rattle.run_facts.proofs.laws.a_call_has_a_footprint.Goals as goal

pub returns : goal.returns
returns c = footprint_of
