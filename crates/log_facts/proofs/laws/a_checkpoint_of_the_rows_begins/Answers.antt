use Rattle.log_facts.proofs.RowsBegin.{rows_begin}
use Rattle.log_facts.proofs.laws.a_checkpoint_of_the_rows_begins.Goals as goal

pub returns : goal.returns
returns c = rows_begin
