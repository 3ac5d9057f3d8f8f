use Rattle.page_edits.proofs.DraftedBytes.{whole_then, others_then}
use Rattle.page_edits.proofs.OperationBytes.{length_after, operation_holds}
use Rattle.page_edits.proofs.laws.an_edit_makes_bytes.Goals as goal

pub returns-clause-long : goal.returns-clause-long
returns-clause-long c = length_after

pub returns-clause-bytes : goal.returns-clause-bytes
returns-clause-bytes c = operation_holds

pub returns-clause-whole : goal.returns-clause-whole
returns-clause-whole c = whole_then

pub returns-clause-others : goal.returns-clause-others
returns-clause-others c = others_then
