use Rattle.unit_facts.proofs.Runs.{drained_clean}
use Rattle.unit_facts.proofs.laws.a_drained_kernel_leaves_no_dirty_unit.Goals as goal

pub returns : goal.returns
returns c = drained_clean
