use Rattle.run_facts.proofs.Kept.{kept_open}
use Rattle.run_facts.proofs.laws.opened_keeps.Goals as goal

pub returns : goal.returns
returns c = kept_open
