use Rattle.std.proofs.Common.{◌≡◌, ◌+◌, ◌*◌, ◌<◌, ◌^◌, length, get_or, sym, ap, subst, ◌∙◌, arith, w64}
use Rattle.std.specs.Int.{trailing_zeros}
use Rattle.std.proofs.lemmas.List.{get_or_default}
use Rattle.unit_allocator.specs.Prelude.{IsFirstBitFrom}
use Rattle.unit_allocator.proofs.Summary.{marked_within, first_marked}
use Rattle.unit_allocator.proofs.indexed_bits.IndexedBits.next_from_word.Goals as goal

pub returns : goal.returns
returns c =
    let found = subst (λ ws. IsFirstBitFrom ws c.args.first c.in_ok-w.w) c.deref.ensures.value c.in_ok-w.ensures in
    let inside : c.in_ok-w.w < length c.self.inside.words.items = marked_within c.self.invariant c.in_ok-w.w found.is_set in
    let read : c.index.result.now ≡ get_or c.self.inside.words.items c.in_ok-w.w 0 =
    c.index.ensures ∙ sym (get_or_default c.self.inside.words.items c.in_ok-w.w 0 c.index.result.now inside) in
    let fits : get_or c.self.inside.words.items c.in_ok-w.w 0 < 2 ^ 64 = omega (arith, read) in
    subst (λ ws. IsFirstBitFrom ws (64 * c.args.first) (64 * c.in_ok-w.w + c.lowest_bit.result)) c.self.view_is
    (first_marked c.self.invariant c.args.first c.in_ok-w.w c.lowest_bit.result found fits (c.lowest_bit.ensures ∙ ap (trailing_zeros w64) read))
