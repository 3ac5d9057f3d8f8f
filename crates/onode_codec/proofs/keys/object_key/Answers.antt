use Rattle.std.proofs.Common.{◌≡◌, ◌∙◌, length, arith, ap, sym, subst}
use Rattle.std.proofs.lemmas.Result.{IfOk-weaker}
use Rattle.meta_rows.specs.Prelude.{IsKey}
use Rattle.std.proofs.lemmas.Grind.{common_steps}
use Rattle.row_format.specs.Prelude.{object_key}
use Rattle.onode_codec.proofs.KeyLengths.{coll_name-most, object_key-size}
use Rattle.onode_codec.proofs.keys.object_key.Goals as goal

pub push_name-requires : goal.push_name-requires
push_name-requires c = omega (
  arith,
  coll_name-most c.args.coll.now c.as_slice-coll.ensures.name,
  ap length c.as_slice-coll.ensures.bytes,
  ap length c.new-key.ensures,
  c.push.ensures.len,
)

pub push_name-requires-2 : goal.push_name-requires-2
push_name-requires-2 c = omega (
  arith,
  coll_name-most c.args.coll.now c.as_slice-coll.ensures.name,
  c.as_slice-object.ensures.name.short,
  ap length c.as_slice-coll.ensures.bytes,
  ap length c.as_slice-object.ensures.bytes,
  ap length c.new-key.ensures,
  c.push.ensures.len,
  c.push_name.ensures.len,
)

pub push_bytes-requires : goal.push_bytes-requires
push_bytes-requires c = omega (
  arith,
  coll_name-most c.args.coll.now c.as_slice-coll.ensures.name,
  c.as_slice-object.ensures.name.short,
  ap length c.as_slice-coll.ensures.bytes,
  ap length c.as_slice-object.ensures.bytes,
  ap length c.new-key.ensures,
  c.push.ensures.len,
  c.push_name.ensures.len,
  c.push_name-2.ensures.len,
  c.requires,
)

pub returns-clause-size : goal.returns-clause-size
returns-clause-size c =
    let is : c.as_slice.result.now ≡ object_key c.args.kind c.args.coll.now c.args.object.now c.args.rest.now = grind (arith, common_steps) in
    IfOk-weaker c.from_slice.result (λ made. made ≡ c.as_slice.result.now) IsKey
    (λ made same. subst IsKey (sym (same ∙ is)) (object_key-size c.args.kind c.args.coll.now c.args.object.now c.args.rest.now
    c.as_slice-coll.ensures.name c.as_slice-object.ensures.name c.requires)) c.from_slice.ensures
