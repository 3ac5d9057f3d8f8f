use Rattle.std.proofs.Common.{length, refl, arith}
use Rattle.meta_log.proofs.PartLemmas.{ReadsParts, after_head, parts_are, are_parts, behind_units, padding_there, zeros_there}
use Rattle.meta_log.proofs.scanning.read_parts.Goals as goal

pub returns-in_err-count : goal.returns-in_err-count
returns-in_err-count c =
    let head = rw c.new-fields.ensures at c.in_ok-head.ensures in
    rw c.from_residual-in_err-count.ensures
    (λ count body rest parts. c.in_err-count.ensures count (length body) (after_head c.args.bytes.now _ _ c.args.number count body rest head parts).0)

pub returns-in_err-padding : goal.returns-in_err-padding
returns-in_err-padding c =
    let said = c.in_ok-count.field-0 in
    let read : ReadsParts c.args.bytes.now c.bytes.new.self c.u32.new.self c.bytes-2.new.self c.in_ok-head.head.now c.args.number said.count said.size
    c.in_ok-sum.sum c.in_ok-body.body.now = record {
      head_at = rw c.new-fields.ensures at c.in_ok-head.ensures;
      sum_at = c.in_ok-sum.ensures.spelled;
      body_at = c.in_ok-body.ensures;
      head_is = c.in_ok-count.ensures;
      count_below = omega arith;
      size_below = omega arith;
    } in
    rw c.from_residual-in_err-padding.ensures (λ count body rest parts.
    let are = parts_are c.args.bytes.now _ _ _ _ c.args.number _ _ _ _ count body rest read parts in
    absurd (omega (arith, c.in_err-padding.ensures.too_few, c.padding_of.ensures, padding_there _ _ rest are.behind)))

pub returns-then-is_intact : goal.returns-then-is_intact
returns-then-is_intact c =
    let said = c.in_ok-count.field-0 in
    let read : ReadsParts c.args.bytes.now c.bytes.new.self c.u32.new.self c.bytes-2.new.self c.in_ok-head.head.now c.args.number said.count said.size
    c.in_ok-sum.sum c.in_ok-body.body.now = record {
      head_at = rw c.new-fields.ensures at c.in_ok-head.ensures;
      sum_at = c.in_ok-sum.ensures.spelled;
      body_at = c.in_ok-body.ensures;
      head_is = c.in_ok-count.ensures;
      count_below = omega arith;
      size_below = omega arith;
    } in
    let intact = c.if-is_intact.ensures.0 refl in
    let stands = are_parts c.args.bytes.now _ _ _ _ c.args.number _ _ _ _ _ _ _ read intact.0 c.in_ok-padding.ensures c.padding_of.ensures intact.1 in
    behind_units _ _ _ _ _ _ stands c.units_of_body-units.ensures

pub returns-else-is_intact : goal.returns-else-is_intact
returns-else-is_intact c = λ count body rest parts.
    let said = c.in_ok-count.field-0 in
    let read : ReadsParts c.args.bytes.now c.bytes.new.self c.u32.new.self c.bytes-2.new.self c.in_ok-head.head.now c.args.number said.count said.size
    c.in_ok-sum.sum c.in_ok-body.body.now = record {
      head_at = rw c.new-fields.ensures at c.in_ok-head.ensures;
      sum_at = c.in_ok-sum.ensures.spelled;
      body_at = c.in_ok-body.ensures;
      head_is = c.in_ok-count.ensures;
      count_below = omega arith;
      size_below = omega arith;
    } in
    let are = parts_are c.args.bytes.now _ _ _ _ c.args.number _ _ _ _ count body rest read parts in
    let zero = zeros_there _ _ _ _ rest _ c.in_ok-padding.ensures c.padding_of.ensures are.behind in
    let intact = c.is_intact.ensures.1 (are.sum_is, zero) in
    cc
