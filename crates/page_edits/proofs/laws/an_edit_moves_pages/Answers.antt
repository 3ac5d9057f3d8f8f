use Rattle.page_edits.proofs.DraftedPages.{kept_touched, kept_same, kept_was, was_put, numbered, stays_both_apart}
use Rattle.plan_drafts.specs.Edits.{is_touched}
use Rattle.page_edits.proofs.Entries.{where_are}
use Rattle.page_edits.proofs.EditSizes.{size_within, ends}
use Rattle.page_edits.proofs.laws.an_edit_moves_pages.Goals as goal

pub returns-clause-long : goal.returns-clause-long
returns-clause-long c = size_within

pub returns-clause-ends : goal.returns-clause-ends
returns-clause-ends c = ends

pub returns-clause-leaves : goal.returns-clause-leaves
returns-clause-leaves c = λ e n d. kept_touched e d n

pub returns-clause-stays : goal.returns-clause-stays
returns-clause-stays c = λ e n d. kept_same e d n

pub returns-clause-kept : goal.returns-clause-kept
returns-clause-kept c = λ e n d. kept_was e d n

pub returns-clause-put : goal.returns-clause-put
returns-clause-put c = λ e n d. was_put e d n

pub returns-clause-numbered : goal.returns-clause-numbered
returns-clause-numbered c = λ e n d. numbered e d n

pub returns-clause-apart : goal.returns-clause-apart
returns-clause-apart c = λ e n d. stays_both_apart e d n

pub returns-clause-left : goal.returns-clause-left
returns-clause-left c = λ e d. where_are (is_touched e) d.kept
