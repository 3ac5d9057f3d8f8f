use Rattle.log_facts.proofs.SwitchCuts.{switch_cut}
use Rattle.log_facts.proofs.laws.a_crash_at_a_switch_leaves_a_prefix.Goals as goal

pub returns : goal.returns
returns c = switch_cut
