use Rattle.std.proofs.Common.{◌≡◌, drop}
use Rattle.unit_allocator.specs.Prelude.{given}
use Rattle.store_kernel.specs.Units.{CanBeGiven}
use Rattle.store_kernel.proofs.space.give_back.Given as goal

abbrev pub invariant-loop-unit : goal.invariant-loop-unit
invariant-loop-unit l = record {
  ahead : given l.space (drop l.unit-index l.units) ≡ given l.initial.space l.units;
  can : CanBeGiven (drop l.unit-index l.units) l.space;
}
