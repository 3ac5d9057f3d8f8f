use Rattle.std.proofs.Common.{◌≡◌, ◌≤◌, ◌-◌}
use Rattle.write_buffers.specs.Prelude.{memory_in}
use Rattle.page_sources.specs.Prelude.{GivesPages}
use Rattle.object_reader.proofs.reading.read_pages.Given as goal

-- the pages so far were read
abbrev pub invariant-parts : goal.invariant-parts
invariant-parts g l =
    let disk = g.D.Device.disk in
    let faults = g.D.Device.faults in
    (disk l.device ≡ disk l.fn.device) × (faults l.fn.device ≤ faults l.device) × (l.first ≤ l.next) × (l.next ≤ l.end)
    × GivesPages (memory_in l.buffers) (disk l.fn.device) l.fn.pages l.first (l.next - l.first) l.bytes.items × (l.pages ≡ l.fn.pages)

abbrev pub decreases-parts : goal.decreases-parts
decreases-parts g l = l.end - l.next
