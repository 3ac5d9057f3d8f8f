use Rattle.std.proofs.Common.{◌∙◌, refl, sym, ap, ap₂, arith}
use Rattle.std.specs.Int.{w64, from_be_bytes}
use Rattle.byte_maps.specs.ByteMap.{byte_order}
use Rattle.byte_maps.proofs.WordLemmas.{bytes_behind, word_decides, word_same}
use Rattle.byte_maps.proofs.comparing.byte_order.Goals as goal

pub loop-here-init : goal.loop-here-init
loop-here-init c = record {
  same = refl;
  left_bytes = λ k. omega (arith, c.type_inv.one k);
  right_bytes = λ k. omega (arith, c.type_inv.other k);
}

pub returns-then-first-second : goal.returns-then-first-second
returns-then-first-second c =
    let l = c.loop-here in
    let one = c.in-Some.ensures.cases in
    let other = c.in-Some-split_first_chunk.ensures.cases in
    c.cmp.ensures
    ∙ word_decides l.left.now l.right.now l.invariant.left_bytes l.invariant.right_bytes (omega (arith, one.2)) (omega (arith, other.2))
    c.from_be_bytes-first.result c.from_be_bytes-second.result (c.from_be_bytes-first.ensures ∙ ap (from_be_bytes w64) one.0) (c.from_be_bytes-second.ensures ∙ ap (from_be_bytes w64) other.0) c.if-first-second.true
    ∙ sym l.invariant.same

pub loop-here-preserved : goal.loop-here-preserved
loop-here-preserved c =
    let l = c.loop-here in
    let one = c.in-Some.ensures.cases in
    let other = c.in-Some-split_first_chunk.ensures.cases in
    record {
      same = l.invariant.same
          ∙ word_same l.left.now l.right.now l.invariant.left_bytes l.invariant.right_bytes (omega (arith, one.2)) (omega (arith, other.2))
          c.from_be_bytes-first.result c.from_be_bytes-second.result (c.from_be_bytes-first.ensures ∙ ap (from_be_bytes w64) one.0) (c.from_be_bytes-second.ensures ∙ ap (from_be_bytes w64) other.0) c.if-first-second.false
          ∙ ap₂ byte_order (sym one.1) (sym other.1);
      left_bytes = bytes_behind l.left.now c.in-Some.behind.now l.invariant.left_bytes one.1;
      right_bytes = bytes_behind l.right.now c.in-Some-split_first_chunk.beyond.now l.invariant.right_bytes other.1;
    }
