use Rattle.bstore_top.proofs.RunLaws.{keeps_after_read}
use Rattle.bstore_top.proofs.laws.a_run_drained_after_a_lost_read_keeps_all.Goals as goal

pub returns : goal.returns
returns c = keeps_after_read
