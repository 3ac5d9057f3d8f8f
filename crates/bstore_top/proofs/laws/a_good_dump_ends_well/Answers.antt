use Rattle.bstore_top.proofs.DumpLaws.{good_dump}
use Rattle.bstore_top.proofs.laws.a_good_dump_ends_well.Goals as goal

pub returns : goal.returns
returns c = good_dump
