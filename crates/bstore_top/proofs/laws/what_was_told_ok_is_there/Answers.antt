use Rattle.bstore_top.proofs.Told.{told_ok_there}
use Rattle.bstore_top.proofs.laws.what_was_told_ok_is_there.Goals as goal

pub returns : goal.returns
returns c = told_ok_there
