use Rattle.page_edits.proofs.UnitContents.{operation_made, more_made, can_more, can_both}
use Rattle.page_edits.proofs.laws.writes_make_contents.Goals as goal

pub returns-clause-one : goal.returns-clause-one
returns-clause-one c = operation_made

pub returns-clause-more : goal.returns-clause-more
returns-clause-more c = more_made

pub returns-clause-can : goal.returns-clause-can
returns-clause-can c = can_more

pub returns-clause-both : goal.returns-clause-both
returns-clause-both c = can_both
