use Rattle.std.proofs.Common.{◌≤◌}
use Rattle.mount_replay.proofs.MountingLemmas.{ReapedSoFar, reaps_left}
use Rattle.mount_replay.proofs.mounting.reap_all.Given as goal

abbrev pub invariant-reaping : goal.invariant-reaping
invariant-reaping g l =
    let disk = g.D.Device.disk in
    let faults = g.D.Device.faults in
    ReapedSoFar l.initial.kernel.state (disk l.initial.kernel.device) l.kernel.state (disk l.kernel.device)
    × (faults l.initial.kernel.device ≤ faults l.kernel.device)

abbrev pub decreases-reaping : goal.decreases-reaping
decreases-reaping g l = reaps_left (g.D.Device.disk l.kernel.device)
