use Rattle.std.proofs.Common.{◌≡◌, ◌∷◌, ◌∙◌, length, rules, arith, ap, sym, subst}
use Rattle.std.proofs.lemmas.Result.{IfOk-weaker}
use Rattle.meta_rows.specs.Prelude.{IsKey}
use Rattle.onode_codec.proofs.KeyLengths.{coll_name-most, coll_key-size}
use Rattle.onode_codec.proofs.keys.coll_key.Goals as goal

pub push_bytes-requires : goal.push_bytes-requires
push_bytes-requires c = omega (
  arith,
  coll_name-most c.args.coll.now c.as_slice.ensures.name,
  ap length c.as_slice.ensures.bytes,
  ap length c.new-key.ensures,
  c.push.ensures.len,
)

pub returns-clause-size : goal.returns-clause-size
returns-clause-size c =
    let is : c.as_slice-2.result.now ≡ 0x43 ∷ c.args.coll.now = search rules in
    IfOk-weaker c.from_slice.result (λ made. made ≡ c.as_slice-2.result.now) IsKey
    (λ made same. subst IsKey (sym (same ∙ is)) (coll_key-size c.args.coll.now c.as_slice.ensures.name)) c.from_slice.ensures
