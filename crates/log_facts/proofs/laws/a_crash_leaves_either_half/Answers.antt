use Rattle.log_facts.proofs.SwitchCuts.{leaves_either}
use Rattle.log_facts.proofs.laws.a_crash_leaves_either_half.Goals as goal

pub returns : goal.returns
returns c = leaves_either
