use Rattle.std.proofs.Common.{◌≡◌, ◌≤◌, ◌-◌}
use Rattle.log_replay.specs.Prelude.{AddsUnits}
use Rattle.log_replay.proofs.stale.add_stale_between.Given as goal

-- the units so far were read
abbrev pub invariant-pieces : goal.invariant-pieces
invariant-pieces g l =
    let disk = g.D.Device.disk in
    let faults = g.D.Device.faults in
    (disk l.dev ≡ disk l.initial.dev) × (faults l.initial.dev ≤ faults l.dev) × (l.first ≤ l.at) × (l.at ≤ l.end)
    × AddsUnits (disk l.initial.dev) l.first l.at l.initial.stale.items l.stale.items

abbrev pub decreases-pieces : goal.decreases-pieces
decreases-pieces g l = l.end - l.at
