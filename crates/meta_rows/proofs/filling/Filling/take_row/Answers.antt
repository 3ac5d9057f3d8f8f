use Rattle.meta_rows.specs.Prelude.{rows_of}
use Rattle.meta_rows.proofs.FillLemmas.{row_under}
use Rattle.meta_rows.proofs.filling.Filling.take_row.Goals as goal

pub returns-clause-awaits : goal.returns-clause-awaits
returns-clause-awaits c = λ key later. (row_under c.args.row (rows_of c.args.self.now) _ c.requires.order c.put_held.ensures.rows key later, later)
