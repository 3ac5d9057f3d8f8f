use Rattle.bstore_top.proofs.FsckLaws.{returns_4}
use Rattle.bstore_top.proofs.laws.a_fsck_returns_4_where_something_is_wrong.Goals as goal

pub returns : goal.returns
returns c = returns_4
