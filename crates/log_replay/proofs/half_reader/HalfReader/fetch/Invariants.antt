use Rattle.std.proofs.Common.{◌≡◌, ◌≤◌, ◌-◌}
use Rattle.log_replay.specs.Prelude.{ReadsOn}
use Rattle.log_replay.proofs.half_reader.HalfReader.fetch.Given as goal

-- the units so far were read
abbrev pub invariant-pieces : goal.invariant-pieces
invariant-pieces g l =
    let disk = g.D.Device.disk in
    let faults = g.D.Device.faults in
    (disk l.dev ≡ disk l.fn.dev) × (faults l.fn.dev ≤ faults l.dev) × ReadsOn (disk l.fn.dev) l.fn.self l.self

abbrev pub decreases-pieces : goal.decreases-pieces
decreases-pieces g l = l.self.end - l.self.next
