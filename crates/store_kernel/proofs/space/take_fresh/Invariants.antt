use Rattle.std.proofs.Common.{◌≡◌, map, drop}
use Rattle.unit_allocator.specs.Prelude.{taken}
use Rattle.store_kernel.proofs.SpaceCalls.{CanTake}
use Rattle.store_kernel.proofs.space.take_fresh.Given as goal

abbrev pub invariant-loop-one : goal.invariant-loop-one
invariant-loop-one l = record {
  ahead : taken l.space (map (λ f. f.unit) (drop l.one-index l.fresh)) ≡ taken l.initial.space (map (λ f. f.unit) l.fresh);
  can : CanTake (map (λ f. f.unit) (drop l.one-index l.fresh)) l.space;
}
