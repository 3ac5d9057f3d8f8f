use Rattle.std.proofs.Common.{◌≤◌, length}
use Rattle.log_replay.proofs.ZeroLemmas.{ZeroedSoFar}
use Rattle.log_replay.proofs.zeroing.zero_units.Given as goal

abbrev pub invariant-runs : goal.invariant-runs
invariant-runs g l =
    let disk = g.D.Device.disk in
    let faults = g.D.Device.faults in
    ZeroedSoFar l.units l.rest l.runs (disk l.initial.dev) (disk l.dev) × (faults l.initial.dev ≤ faults l.dev)

abbrev pub decreases-runs : goal.decreases-runs
decreases-runs g l = length l.rest
