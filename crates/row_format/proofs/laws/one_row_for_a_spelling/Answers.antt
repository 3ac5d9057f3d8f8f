use Rattle.row_format.proofs.RowLemmas.{same_row}
use Rattle.row_format.proofs.laws.one_row_for_a_spelling.Goals as goal

pub returns : goal.returns
returns c = same_row
