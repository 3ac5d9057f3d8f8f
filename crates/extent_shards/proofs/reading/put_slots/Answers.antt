use Rattle.std.proofs.Common.{◌+◌, ap, ◌∙◌}
use Rattle.std.specs.FinMap as finite
use Rattle.row_format.specs.Prelude.{slot}
use Rattle.extent_shards.proofs.Values.{slots_next}
use Rattle.extent_shards.proofs.reading.put_slots.Goals as goal

pub loop-i-preserved : goal.loop-i-preserved
loop-i-preserved c =
    slots_next c.args.first c.args.sbid c.args.index c.loop-i.i c.args.pages.now c.loop-i.pages c.set.new.self
    (c.in_ok-set.ensures.ok
    ∙ ap (λ n. finite.insert c.loop-i.pages (c.args.first + n) (slot c.args.sbid (c.args.index + c.loop-i.i))) c.from.ensures) c.loop-i.invariant
