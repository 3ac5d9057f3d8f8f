use Rattle.std.proofs.Common.{◌≡◌, ◌≤◌, length, take}
use Rattle.std.specs.Prelude.{filter}
use Rattle.store_steps.specs.Prelude.{is_ready, all_steps}
use Rattle.client_runs.proofs.drawing.ready_steps.Given as goal

abbrev pub invariant-steps : goal.invariant-steps
invariant-steps g l = record {
  table : l.step-items ≡ all_steps;
  so_far : take l.count l.ready ≡ filter (λ step. is_ready step (g.D.Device.disk l.kernel.device).depth l.kernel.state) (take l.step-index l.step-items);
  few : l.count ≤ l.step-index;
  room : length l.ready ≡ 14;
}
