use Rattle.std.proofs.Common.{◌≡◌, ◌≤◌, ◌-◌}
use Rattle.log_replay.specs.Opening.{IsAbout}
use Rattle.log_replay.specs.OtherHalf.{AreGathered, GathersBelow}
use Rattle.log_replay.proofs.other_half.gather.Given as goal

-- the units so far were read
abbrev pub invariant-pieces : goal.invariant-pieces
invariant-pieces g l =
    let disk = g.D.Device.disk in
    let faults = g.D.Device.faults in
    (disk l.dev ≡ disk l.initial.dev) × (faults l.initial.dev ≤ faults l.dev) × (l.at ≤ l.count) × AreGathered l.at l.runs
    × IsAbout (disk l.initial.dev) (GathersBelow l.first l.at l.runs)

abbrev pub decreases-pieces : goal.decreases-pieces
decreases-pieces g l = l.count - l.at
