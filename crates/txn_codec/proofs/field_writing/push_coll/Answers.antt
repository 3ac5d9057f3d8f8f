use Rattle.std.proofs.Common.{length, ap, arith}
use Rattle.txn_codec.proofs.CollNames.{coll_name-short}
use Rattle.txn_codec.proofs.field_writing.push_coll.Goals as goal

pub push_short-requires : goal.push_short-requires
push_short-requires c = omega (arith, coll_name-short c.args.name.now c.as_slice.ensures.name, ap length c.as_slice.ensures.bytes)
