use Rattle.std.proofs.Common.{◌≡◌, ◌≤◌, take}
use Rattle.write_buffers.specs.Prelude.{memory_in}
use Rattle.page_sources.specs.Prelude.{GivesPlaces}
use Rattle.page_sources.proofs.places.read_places.Given as goal

-- the places so far were read
abbrev pub invariant-loop-place : goal.invariant-loop-place
invariant-loop-place g l =
    let disk = g.D.Device.disk in
    let faults = g.D.Device.faults in
    (disk l.device ≡ disk l.initial.device) × (faults l.initial.device ≤ faults l.device)
    × GivesPlaces (memory_in l.buffers) (disk l.initial.device) (take l.place-index l.places) l.read
