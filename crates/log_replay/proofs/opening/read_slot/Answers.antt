use Rattle.log_replay.proofs.OpeningLemmas.{slot_seen}
use Rattle.log_replay.proofs.opening.read_slot.Goals as goal

pub returns-clause-slot : goal.returns-clause-slot
returns-clause-slot g c =
    let disk = g.D.Device.disk in
    slot_seen (disk c.args.dev.now) c.args.slot c.read.new.into.items c.valid_slot.result c.units-units.ensures.sound c.in_ok-read.ensures.ok
    (rw (c.units-units.ensures.value, c.deref.ensures.value) at c.valid_slot.ensures)
