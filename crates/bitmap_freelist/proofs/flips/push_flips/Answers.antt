use Rattle.std.proofs.Common.{rules, ◌≡◌, ◌<◌, ◌^◌, length, get_or}
use Rattle.bitmap_freelist.proofs.Flipped.{step_on, pushed_none, pushed_on, pushed_all}
use Rattle.bitmap_freelist.proofs.flips.push_flips.Goals as goal

pub loop-first-init : goal.loop-first-init
loop-first-init c =
    pushed_none c.args.units.now c.as_slice-left.result.now c.args.ops.now.items c.as_slice-left.ensures.units c.as_slice-left.ensures.ascending

pub loop-first-preserved : goal.loop-first-preserved
loop-first-preserved c =
    let some : 0 < length c.loop-first.left.now = search rules in
    let is : c.in-Some.first.now ≡ get_or c.loop-first.left.now 0 c.in-Some.first.now = search rules in
    let below : c.in-Some.first.now < 2 ^ 32 = search rules in
    let pushed = c.loop-first.invariant in
    let stepped = step_on c.args.units.now c.loop-first.left.now c.split_at.result.0.now c.split_at.result.1.now pushed.flips
    c.in-Some.first.now c.count_of_row.result c.in_ok-flip.field-0 pushed.flipped some is below
    c.count_of_row.ensures c.split_at.ensures.front c.split_at.ensures.back c.in_ok-flip.ensures.is in
    pushed_on c.args.units.now c.loop-first.left.now c.split_at.result.1.now c.args.ops.now.items c.loop-first.ops.items c.push.new.self.items
    c.in_ok-flip.field-0 pushed c.in_ok-push.ensures.items stepped.0 c.in_ok-flip.ensures.fits

pub returns : goal.returns
returns c =
    let none : length c.loop-first.left.now ≡ 0 = search rules in
    pushed_all c.args.units.now c.loop-first.left.now c.args.ops.now.items c.loop-first.ops.items c.loop-first.invariant none
