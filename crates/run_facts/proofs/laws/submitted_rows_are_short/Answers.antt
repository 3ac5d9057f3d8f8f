use Rattle.run_facts.proofs.RowsNow.{submitted_short}
use Rattle.run_facts.proofs.laws.submitted_rows_are_short.Goals as goal

pub returns : goal.returns
returns c = submitted_short
