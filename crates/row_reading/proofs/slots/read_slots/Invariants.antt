use Rattle.row_reading.specs.Slots.{ReadsSlots}
use Rattle.row_reading.proofs.slots.read_slots.Given as goal

abbrev pub invariant-slots : goal.invariant-slots
invariant-slots l = ReadsSlots l.width l._i l.initial.fields l.fields l.slots.items
