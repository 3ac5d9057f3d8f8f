use Rattle.std.proofs.Common.{◌≡◌, ◌+◌, ◌≤◌, ◌<◌}
use Rattle.log_replay.proofs.calls.wait.Given as goal

-- so far it only waited
abbrev pub invariant-waiting : goal.invariant-waiting
invariant-waiting g l =
    let disk = g.D.Device.disk in
    let faults = g.D.Device.faults in
    let before = (disk l.initial.dev).waits in
    (disk l.dev ≡ record (disk l.initial.dev) { waits = before + l.counter }) × (faults l.initial.dev ≤ faults l.dev) × (0 < l.counter → before + l.counter ≤ 64)
