use Rattle.std.proofs.Common.{◌*◌, ◌<◌, ◌^◌, arith, get_or}
use Rattle.unit_allocator.proofs.OneBit.{first_in, joined}
use Rattle.unit_allocator.proofs.bits.next_in_words.Goals as goal

pub returns-then-word-ne0 : goal.returns-then-word-ne0
returns-then-word-ne0 c =
    let some : 0 < get_or c.args.words.now c.loop-w.w 0 = omega arith in
    let fits : get_or c.args.words.now c.loop-w.w 0 < 2 ^ 64 = omega (arith, c.type_inv.words c.loop-w.w) in
    let s = first_in c.args.words.now c.loop-w.w _ some fits c.lowest_bit.ensures in
    record {
      not_before = omega (arith, c.loop-w.auto.w);
      within = omega (arith, s.within);
      is_set = s.one;
      none_between = joined _ _ (64 * c.args.first) (64 * c.loop-w.w) c.loop-w.invariant s.none;
    }
