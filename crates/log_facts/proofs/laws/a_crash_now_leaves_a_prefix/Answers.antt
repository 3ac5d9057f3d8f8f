use Rattle.log_facts.proofs.Cuts.{cut_stands}
use Rattle.log_facts.proofs.laws.a_crash_now_leaves_a_prefix.Goals as goal

pub returns : goal.returns
returns c = cut_stands
