use Rattle.crash_facts.proofs.Runs.{drained_stands, drained_exact}
use Rattle.crash_facts.proofs.laws.a_drained_store_stands.Goals as goal

pub returns-clause-stands : goal.returns-clause-stands
returns-clause-stands c = drained_stands

pub returns-clause-exact : goal.returns-clause-exact
returns-clause-exact c = drained_exact
