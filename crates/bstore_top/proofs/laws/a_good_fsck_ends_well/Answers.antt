use Rattle.bstore_top.proofs.FsckLaws.{good_fsck}
use Rattle.bstore_top.proofs.laws.a_good_fsck_ends_well.Goals as goal

pub returns : goal.returns
returns c = good_fsck
