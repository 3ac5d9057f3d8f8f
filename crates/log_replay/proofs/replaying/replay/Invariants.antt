use Rattle.std.proofs.Common.{◌≡◌, ◌≤◌, ◌-◌}
use Rattle.log_replay.specs.Prelude.{rows_so_far, IsParted}
use Rattle.log_replay.proofs.HalfLemmas.{ReplayedHalf}
use Rattle.log_replay.proofs.replaying.replay.Given as goal

-- the records so far were applied
abbrev pub invariant-records : goal.invariant-records
invariant-records g l =
    let disk = g.D.Device.disk in
    let faults = g.D.Device.faults in
    (disk l.dev ≡ disk l.initial.dev) × (faults l.initial.dev ≤ faults l.dev)
    × ReplayedHalf (disk l.initial.dev) l.initial.half l.fn.first l.half (rows_so_far l.gathered) l.tail l.number
    × IsParted l.gathered

abbrev pub decreases-records : goal.decreases-records
decreases-records g l = l.half.end - l.half.at
