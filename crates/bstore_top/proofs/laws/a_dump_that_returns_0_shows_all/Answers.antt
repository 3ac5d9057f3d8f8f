use Rattle.bstore_top.proofs.DumpLaws.{dump_shows}
use Rattle.bstore_top.proofs.laws.a_dump_that_returns_0_shows_all.Goals as goal

pub returns : goal.returns
returns c = dump_shows
