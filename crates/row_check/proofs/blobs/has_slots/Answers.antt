use Rattle.std.proofs.Common.{◌≡◌, ◌+◌, ◌<◌, ◌^◌, true, false, Some, List, ap, sym, ◌∙◌, rules, arith}
use Rattle.std.specs.FinMap as map
use Rattle.row_format.specs.Prelude.{shared_key, shared, Extent}
use Rattle.onode_codec.specs.Bodies.{body_of}
use Rattle.row_check.specs.Named.{IsNamedByOther}
use Rattle.row_check.proofs.BlobRows.{slots_answer}
use Rattle.row_check.proofs.blobs.has_slots.Goals as goal

pub returns : goal.returns
returns c =
    let s = c.in-Shared in
    let low : s.sbid < 2 ^ 64 = omega arith in
    let key : c.as_slice-3.result.now ≡ shared_key s.sbid = c.as_slice-3.ensures ∙ c.in_ok-key.ensures.key in
    let value = c.as_slice-4.result.now in
    let stands : map.get c.args.rows.now.rows (shared_key s.sbid) ≡ Some value = search rules in
    let none : ¬ (IsNamedByOther c.args.namers.now (shared_key s.sbid) c.args.coll.now) =
    (let named : ¬ (IsNamedByOther c.args.namers.now c.as_slice-2.result.now c.args.coll.now) =
    λ is. let yes = c.is_named_by_other.ensures.1 is in let never : true ≡ false = sym yes ∙ c.if-is_named_by_other.false in cc in
    rw (c.as_slice-2.ensures ∙ c.in_ok-key.ensures.key) at named) in
    let body : c.args.extent.now.body ≡ shared s.sbid s.first s.count = sym (ap (λ (e : Extent). e.body) c.extent.view_is) ∙ ap body_of s.is in
    slots_answer c.args.width c.args.rows.now.rows c.args.coll.now s.sbid s.first s.count low c.args.namers.now c.args.extent.now.body
    c.as_slice-3.result.now value (c.from.result + c.from-2.result) c.says_slots.result body key (omega (arith, c.from.ensures, c.from-2.ensures)) stands
    c.requires none c.says_slots.ensures
