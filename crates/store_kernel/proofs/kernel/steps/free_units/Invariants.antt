use Rattle.std.proofs.Common.{◌≡◌, drop}
use Rattle.unit_allocator.specs.Prelude.{given}
use Rattle.write_buffers.specs.Prelude.{memory_in}
use Rattle.store_kernel.specs.Units.{CanBeGiven}
use Rattle.store_kernel.proofs.SpaceCalls.{released}
use Rattle.store_kernel.proofs.BufferLemmas.{LetsGo}
use Rattle.store_kernel.proofs.kernel.steps.free_units.Given as goal

abbrev pub invariant-loop-one : goal.invariant-loop-one
invariant-loop-one l = record {
  ahead : given l.space (released (drop l.one-index l.fn.queued)) ≡ given l.fn.space (released l.fn.queued);
  can : CanBeGiven (released (drop l.one-index l.fn.queued)) l.space;
  gone : LetsGo l.fn.queued (memory_in l.fn.buffers) (memory_in l.buffers) l.one-index;
}
