use Rattle.std.proofs.Common.{List, take, sym, subst}
use Rattle.std.proofs.lemmas.List.{take_more}
use Rattle.plan_rows.specs.declared.plan.SlotNo.{SlotNo}
use Rattle.shared_blobs.specs.Lowering.{AreLowered}
use Rattle.shared_blobs.proofs.Leaving.{none_lowered, have_units}
use Rattle.shared_blobs.proofs.lowering.lower.Goals as goal

pub loop-slot-init : goal.loop-slot-init
loop-slot-init c = none_lowered c.args.width c.args.rows.now.rows (record { blobs = c.new.result; freed = c.new-2.result }) c.new.ensures c.new-2.ensures.items

pub leave-requires-clause-units : goal.leave-requires-clause-units
leave-requires-clause-units c = have_units c.args.width c.args.rows.now.rows c.requires _ c.loop-slot.lowered c.loop-slot.invariant

pub loop-slot-preserved : goal.loop-slot-preserved
loop-slot-preserved c =
    let i = c.loop-slot.slot-index in
    let left : List SlotNo = c.args.left.now in
    subst (λ l. AreLowered c.args.width c.args.rows.now.rows l c.leave.new.lowered) (sym (take_more left i _ c.loop-slot-test.true))
    (c.in_ok-leave.ensures (take i left) c.loop-slot.invariant)
