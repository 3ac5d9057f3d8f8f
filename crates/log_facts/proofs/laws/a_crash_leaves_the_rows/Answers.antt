use Rattle.log_facts.proofs.Crashes.{leaves_rows}
use Rattle.log_facts.proofs.laws.a_crash_leaves_the_rows.Goals as goal

pub returns : goal.returns
returns c = leaves_rows
