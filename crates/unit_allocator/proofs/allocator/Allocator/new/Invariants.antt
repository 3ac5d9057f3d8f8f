use Rattle.unit_allocator.proofs.Leaving.{IsLeftOf}
use Rattle.unit_allocator.proofs.allocator.Allocator.new.Given as goal

abbrev pub invariant-loop-unit : goal.invariant-loop-unit
invariant-loop-unit l = IsLeftOf l.first l.count l.unit-items l.unit-index l.made
