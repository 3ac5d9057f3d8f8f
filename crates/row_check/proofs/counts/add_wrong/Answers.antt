use Rattle.row_check.proofs.SlotOrder.{none_added, one_added}
use Rattle.row_check.proofs.counts.add_wrong.Goals as goal

pub loop-index-init : goal.loop-index-init
loop-index-init c = none_added c.args.tally.now c.args.counts.now.items

pub loop-index-preserved : goal.loop-index-preserved
loop-index-preserved c =
    one_added c.args.tally.now c.loop-index.index c.args.counts.now.items c.loop-index.counts.items c.add_if_wrong.new.counts.items c.slot_count_of.result
    c.loop-index.invariant c.slot_count_of.ensures c.in_ok-add_if_wrong.ensures
