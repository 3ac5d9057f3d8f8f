use Rattle.std.proofs.Common.{[], Some, ◌+◌, ◌∙◌, ap}
use Rattle.meta_rows.specs.Prelude.{rows_from_to, list_size}
use Rattle.meta_rows.proofs.CursorLemmas.{before_all}
use Rattle.meta_rows.proofs.row_cursor.RowCursor.start.Goals as goal

pub returns : goal.returns
returns c = λ rows. ap (λ key. list_size (rows_from_to rows [] (Some key)) + 0) c.new.ensures ∙ before_all rows
