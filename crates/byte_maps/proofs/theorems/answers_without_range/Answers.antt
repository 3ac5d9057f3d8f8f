use Rattle.byte_maps.proofs.Laws.{after_remove_range}
use Rattle.byte_maps.proofs.theorems.answers_without_range.Goals as goal

pub returns : goal.returns
returns g c key = after_remove_range c.args.held.now c.args.first.now c.args.last.now key
