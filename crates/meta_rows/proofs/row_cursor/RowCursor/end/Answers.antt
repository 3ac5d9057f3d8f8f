use Rattle.meta_rows.proofs.CursorLemmas.{before_end}
use Rattle.meta_rows.proofs.row_cursor.RowCursor.end.Goals as goal

pub returns : goal.returns
returns c = before_end
