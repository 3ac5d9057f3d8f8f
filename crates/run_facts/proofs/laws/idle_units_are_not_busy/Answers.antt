use Rattle.run_facts.proofs.RowsNow.{kept_rows}
use Rattle.run_facts.proofs.laws.idle_units_are_not_busy.Goals as goal

pub returns-clause-idle : goal.returns-clause-idle
returns-clause-idle c = λ s d kept up. (kept_rows s d kept up).counted

pub returns-clause-held : goal.returns-clause-held
returns-clause-held c = λ s d kept up. (kept_rows s d kept up).held
