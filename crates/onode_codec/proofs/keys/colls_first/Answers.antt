use Rattle.std.proofs.Common.{length, arith, ap}
use Rattle.onode_codec.proofs.KeyLengths.{coll_name-most}
use Rattle.onode_codec.proofs.keys.colls_first.Goals as goal

pub push_name-requires : goal.push_name-requires
push_name-requires c = omega (
  arith,
  coll_name-most c.in-Some.coll.now c.as_slice.ensures.name,
  ap length c.as_slice.ensures.bytes,
  ap length c.new-key.ensures,
  c.push.ensures.len,
)
