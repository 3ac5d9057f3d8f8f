use Rattle.std.proofs.Common.{arith}
use Rattle.unit_allocator.specs.Prelude.{hold_counts}
use Rattle.unit_allocator.proofs.Fields.{contains_test}
use Rattle.unit_allocator.proofs.allocator.Allocator.contains.Goals as goal

pub returns-then-self-unit : goal.returns-then-self-unit
returns-then-self-unit c =
    contains_test c.self.inside.first c.self.inside.count c.self.inside.idle.items (hold_counts c.self.inside.holds c.self.inside.count)
    c.args.self.now c.args.unit c.number-unit.result c.self.view_is c.number-unit.ensures (omega (arith, c.if-self-unit.true))
