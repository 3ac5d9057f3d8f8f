use Rattle.bstore_top.proofs.FsckWork.{fsck_opened}
use Rattle.bstore_top.proofs.fsck_work.fsck_store.Goals as goal

pub returns-clause-done : goal.returns-clause-done
returns-clause-done g c =
    fsck_opened c.args.dev.now _ _ _ _ _ _ _ _ _ (rw c.as_str.ensures at c.in-Ok.ensures.ok) c.units.ensures.sound c.fsck_on-ended.ensures.same
    c.fsck_on-ended.ensures.looks
