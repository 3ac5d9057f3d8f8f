use Rattle.std.proofs.Common.{◌≡◌, ◌-◌, ◌∙◌, refl, arith}
use Rattle.unit_allocator.proofs.Leaving.{none_left_out, is_unheld, one_left_out, all_left_out, renamed}
use Rattle.unit_allocator.proofs.allocator.Allocator.new.Goals as goal

pub loop-unit-init : goal.loop-unit-init
loop-unit-init c = none_left_out _ _ _ c.in_ok-made.made c.in_ok-made.ensures.first c.in_ok-made.ensures.idle c.in_ok-made.ensures.holds

pub leave_out-requires : goal.leave_out-requires
leave_out-requires c = is_unheld _ _ _ _ c.loop-unit.made c.loop-unit.invariant

pub loop-unit-preserved : goal.loop-unit-preserved
loop-unit-preserved c =
    one_left_out _ _ c.as_slice-unit-items.result.now c.loop-unit.unit-index c.loop-unit.made c.leave_out.new.self _ c.loop-unit.invariant
    (omega (arith, c.loop-unit-test.true)) refl c.leave_out.ensures

pub returns : goal.returns
returns c =
    let count : c.number.result - c.number-first.result ≡ c.args.end - c.args.first = omega (arith, c.number.ensures, c.number-first.ensures) in
    all_left_out _ _ c.as_slice-unit-items.result.now c.loop-unit.unit-index c.loop-unit.made c.args.busy.now c.loop-unit.invariant
    (omega (arith, c.loop-unit-test.false)) c.as_slice-unit-items.ensures.units
    ∙ renamed _ _ _ _ c.args.busy.now c.number-first.ensures count
