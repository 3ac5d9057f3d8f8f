use Rattle.std.proofs.Common.{Some, None}
use Rattle.unit_allocator.proofs.Fields.{count_is}
use Rattle.unit_allocator.proofs.hold_counts.count_at.Goals as goal

pub returns-in-Some : goal.returns-in-Some
returns-in-Some c = count_is c.args.holds.now c.args.at (Some c.in-Some.count.now) c.in-Some.ensures

pub returns-in-None : goal.returns-in-None
returns-in-None c = count_is c.args.holds.now c.args.at None c.in-None.ensures
