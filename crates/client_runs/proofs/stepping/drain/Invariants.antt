use Rattle.std.proofs.Common.{◌≤◌}
use Rattle.run_facts.specs.Prelude.{IsKept, measure}
use Rattle.client_runs.proofs.SteppingLemmas.{IsDraining}
use Rattle.client_runs.proofs.stepping.drain.Given as goal

abbrev pub invariant-steps : goal.invariant-steps
invariant-steps g l = record {
  so_far : IsDraining l.initial.generator.x l.initial.kernel.state (g.D.Device.disk l.initial.kernel.device) l.generator.x l.kernel.state
      (g.D.Device.disk l.kernel.device);
  kept : IsKept l.kernel.state (g.D.Device.disk l.kernel.device);
  later : g.D.Device.faults l.initial.kernel.device ≤ g.D.Device.faults l.kernel.device;
}

abbrev pub decreases-steps : goal.decreases-steps
decreases-steps g l = measure l.kernel.state (g.D.Device.disk l.kernel.device).waits
