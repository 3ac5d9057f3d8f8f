use Rattle.std.proofs.Common.{◌+◌, ◌<◌, length, rules}
use Rattle.unit_fields.specs.Prelude.{bytes_of}
use Rattle.row_reading.proofs.SlotReading.{slots_short}
use Rattle.row_reading.proofs.slots.read_slots.Goals as goal

pub returns-in_default : goal.returns-in_default
returns-in_default c =
    let few : length c.slots.fields < bytes_of c.args.width 1 + 4 = search rules in
    slots_short c.args.width c.args.count c.slots._i c.args.fields.now c.slots.fields c.slots.slots.items c.slots.invariant (search rules) few
