use Rattle.std.proofs.Common.{length, arith, ap}
use Rattle.onode_codec.proofs.KeyLengths.{coll_name-most}
use Rattle.onode_codec.proofs.keys.objects_front.Goals as goal

pub push_bytes-requires : goal.push_bytes-requires
push_bytes-requires c = omega (
  arith,
  coll_name-most c.args.coll.now c.as_slice.ensures.name,
  ap length c.as_slice.ensures.bytes,
  ap length c.new-key.ensures,
  c.push.ensures.len,
)

pub push-requires-2 : goal.push-requires-2
push-requires-2 c = (
  omega arith,
  omega (
    arith,
    coll_name-most c.args.coll.now c.as_slice.ensures.name,
    ap length c.as_slice.ensures.bytes,
    ap length c.new-key.ensures,
    c.push.ensures.len,
    c.push_bytes.ensures.len,
  ),
)
