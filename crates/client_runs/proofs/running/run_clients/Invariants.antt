use Rattle.std.proofs.Common.{◌≤◌}
use Rattle.client_runs.specs.Running.{command_sum}
use Rattle.client_runs.specs.Clients.{lefts}
use Rattle.client_runs.specs.Standing.{position_of}
use Rattle.client_runs.proofs.ClientRunLemmas.{IsRunning}
use Rattle.client_runs.proofs.running.run_clients.Given as goal

abbrev pub invariant-turns : goal.invariant-turns
invariant-turns g l = record {
  so_far : IsRunning (position_of l.initial.generator.x l.initial.clients l.initial.kernel.state (g.D.Device.disk l.initial.kernel.device))
      l.generator.x l.clients l.kernel.state (g.D.Device.disk l.kernel.device);
  later : g.D.Device.faults l.initial.kernel.device ≤ g.D.Device.faults l.kernel.device;
}

abbrev pub decreases-turns : goal.decreases-turns
decreases-turns g l = command_sum (lefts l.clients.all.items)
