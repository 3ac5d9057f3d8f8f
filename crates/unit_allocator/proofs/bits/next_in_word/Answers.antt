use Rattle.std.proofs.Common.{◌<◌, ◌/◌, ◌%◌, ◌^◌, get_or, arith}
use Rattle.unit_allocator.proofs.OneBit.{rest_is_zero, lowest_of_rest}
use Rattle.unit_allocator.proofs.bits.next_in_word.Goals as goal

pub returns-then-rest-eq0 : goal.returns-then-rest-eq0
returns-then-rest-eq0 c = rest_is_zero c.args.words.now c.args.from c.if-rest-eq0.true

pub returns : goal.returns
returns c =
    let fits : get_or c.args.words.now (c.args.from / 64) 0 < 2 ^ 64 = omega (arith, c.type_inv.words (c.args.from / 64)) in
    let some : 0 < get_or c.args.words.now (c.args.from / 64) 0 / 2 ^ (c.args.from % 64) = omega (arith, c.if-rest-eq0.false) in
    lowest_of_rest c.args.words.now c.args.from c.lowest_bit.result fits some c.lowest_bit.ensures
