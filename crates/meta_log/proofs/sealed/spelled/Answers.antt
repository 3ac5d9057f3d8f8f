use Rattle.std.proofs.Common.{ℕ, List, ◌++◌, length, ap, ap₂, ◌∙◌, arith}
use Rattle.crc32c_csum.specs.Prelude.{crc32c}
use Rattle.meta_log.specs.Prelude.{head_of}
use Rattle.meta_log.proofs.RecordLemmas.{count_below}
use Rattle.meta_log.proofs.SealLemmas.{record_of_parts}
use Rattle.meta_log.proofs.sealed.spelled.Goals as goal

pub head-requires-clause-ops : goal.head-requires-clause-ops
head-requires-clause-ops c = omega (arith, c.requires.body_below, count_below c.args.ops.now)

pub returns : goal.returns
returns c =
    let body = c.in_ok-body.body.items in
    let head = c.in_ok-bytes.bytes.items in
    record_of_parts c.args.number c.args.ops.now body head c.push_u32_le.new.out.items c.extend_from_slice.new.self.items c.fill.new.bytes.items
    c.sum_of-sum.result
    c.in_ok-body.ensures
    (c.in_ok-bytes.ensures ∙ ap (λ (b : List ℕ). head_of c.args.number (length c.args.ops.now) (length b)) c.deref.ensures.value)
    (c.sum_of-sum.ensures ∙ ap₂ (λ (a b : List ℕ). crc32c (a ++ b)) c.deref-2.ensures.value c.deref-3.ensures.value)
    c.in_ok-push_u32_le.ensures.ok
    (c.in_ok-extend_from_slice.ensures.items ∙ ap (λ (b : List ℕ). c.push_u32_le.new.out.items ++ b) c.deref-4.ensures.value)
    c.in_ok-fill.ensures
