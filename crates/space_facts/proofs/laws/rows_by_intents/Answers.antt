use Rattle.space_facts.proofs.Rows.{rows_append, rows_by_ops}
use Rattle.space_facts.proofs.laws.rows_by_intents.Goals as goal

pub returns-clause-joined : goal.returns-clause-joined
returns-clause-joined c = rows_append

pub returns-clause-operations : goal.returns-clause-operations
returns-clause-operations c = rows_by_ops
