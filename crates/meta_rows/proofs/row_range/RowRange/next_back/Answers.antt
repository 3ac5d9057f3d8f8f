use Rattle.std.proofs.Common.{◌∙◌, sym}
use Rattle.meta_rows.proofs.CursorLemmas.{last_of_more}
use Rattle.meta_rows.proofs.row_range.RowRange.next_back.Goals as goal

pub returns-in-Some-split_last : goal.returns-in-Some-split_last
returns-in-Some-split_last c =
    let fields = c.self.inside in
    sym c.self.view_is
    ∙ last_of_more fields.here.now fields.more.now c.in-Some-split_last.more.now c.in-Some-split_last.chunk.now fields.last.now c.in_ok-row.last.now c.in_ok-row.row.now
    c.in_default.ensures.cases c.in-Some-split_last.ensures.cases.0 (sym c.rows.ensures ∙ c.in_ok-row.ensures.cases.0)
