use Rattle.std.proofs.Common.{◌≡◌, ◌≤◌, ◌-◌}
use Rattle.write_buffers.specs.Prelude.{memory_in}
use Rattle.object_reader.specs.Ranges.{IsDigestOf}
use Rattle.object_reader.proofs.reading.sum.Given as goal

-- the pages so far were taken in
abbrev pub invariant-parts : goal.invariant-parts
invariant-parts g l =
    let disk = g.D.Device.disk in
    let faults = g.D.Device.faults in
    (disk l.device ≡ disk l.initial.device) × (faults l.initial.device ≤ faults l.device) × (l.next ≤ l.end)
    × IsDigestOf (memory_in l.buffers) (disk l.initial.device) l.initial.pages l.size l.next l.digest × (l.pages ≡ l.initial.pages)

abbrev pub decreases-parts : goal.decreases-parts
decreases-parts g l = l.end - l.next
