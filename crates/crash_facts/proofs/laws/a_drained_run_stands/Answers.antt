use Rattle.crash_facts.proofs.Runs.{end_stands, end_clean, end_exact}
use Rattle.crash_facts.proofs.laws.a_drained_run_stands.Goals as goal

pub returns-clause-stands : goal.returns-clause-stands
returns-clause-stands c = end_stands

pub returns-clause-clean : goal.returns-clause-clean
returns-clause-clean c = end_clean

pub returns-clause-exact : goal.returns-clause-exact
returns-clause-exact c = end_exact
