use Rattle.bstore_top.proofs.RunLaws.{clients_run}
use Rattle.bstore_top.proofs.laws.a_run_of_scripts_is_a_run.Goals as goal

pub returns : goal.returns
returns c = clients_run
