use Rattle.bstore_top.proofs.FsckWork.{looks_failed, looks_found}
use Rattle.bstore_top.proofs.fsck_work.fsck_on.Goals as goal

pub returns-in-Ok-clause-looks : goal.returns-in-Ok-clause-looks
returns-in-Ok-clause-looks g c = looks_found _ _ _ c.from_vec.ensures c.in-Ok.ensures.found

pub returns-in-Err-clause-looks : goal.returns-in-Err-clause-looks
returns-in-Err-clause-looks g c = looks_failed c.in-Err.fail _ _ _ _ c.unlooked.ensures c.in-Err.ensures.fails
