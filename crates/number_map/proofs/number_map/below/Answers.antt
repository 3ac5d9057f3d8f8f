use Rattle.std.proofs.Common.{◌+◌, ◌-◌, ◌/◌, arith}
use Rattle.number_map.proofs.Search.{front_more, back_more}
use Rattle.number_map.proofs.number_map.below.Goals as goal

pub loop-low-preserved-then-entries-mid : goal.loop-low-preserved-then-entries-mid
loop-low-preserved-then-entries-mid g c = record { order = omega arith; within = omega arith; front = front_more c.args.key c.args.entries.now (c.loop-low.low + (c.loop-low.high - c.loop-low.low) / 2) c.index-entries-mid.result c.requires (omega arith) c.if-entries-mid.true; back = c.loop-low.invariant.back }

pub loop-low-preserved : goal.loop-low-preserved
loop-low-preserved g c = record { order = omega arith; within = omega arith; front = c.loop-low.invariant.front; back = back_more c.args.key c.args.entries.now (c.loop-low.low + (c.loop-low.high - c.loop-low.low) / 2) c.index-entries-mid.result c.requires (omega arith) c.if-entries-mid.false }
