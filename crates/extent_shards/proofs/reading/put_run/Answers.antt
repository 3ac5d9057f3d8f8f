use Rattle.std.proofs.lemmas.Result.{on_ok_weaker}
use Rattle.extent_shards.proofs.Values.{fits_pages, fits_room, puts_units, puts_slots}
use Rattle.extent_shards.proofs.reading.put_run.Goals as goal

pub put_units-requires-clause-pages : goal.put_units-requires-clause-pages
put_units-requires-clause-pages c = fits_pages c.args.width c.args.fields.now c.read.new.fields c.in-Some.head c.requires c.in-Some.ensures

pub put_units-requires-clause-units : goal.put_units-requires-clause-units
put_units-requires-clause-units c =
    (fits_room c.args.width c.args.fields.now c.read.new.fields c.in-Some.head _ c.requires c.in-Some.ensures c.in-Unit.is).0

pub put_units-requires-clause-csums : goal.put_units-requires-clause-csums
put_units-requires-clause-csums c =
    (fits_room c.args.width c.args.fields.now c.read.new.fields c.in-Some.head _ c.requires c.in-Some.ensures c.in-Unit.is).1

pub returns-in-Unit : goal.returns-in-Unit
returns-in-Unit c =
    on_ok_weaker c.put_units.result
    (puts_units c.args.width c.args.fields.now c.read.new.fields c.put_units.new.fields c.in-Some.head c.in-Unit.unit c.args.pages.now
    c.put_units.new.pages c.in-Some.ensures c.in-Unit.is)
    c.put_units.ensures

pub put_slots-requires-clause-pages : goal.put_slots-requires-clause-pages
put_slots-requires-clause-pages c = fits_pages c.args.width c.args.fields.now c.read.new.fields c.in-Some.head c.requires c.in-Some.ensures

pub put_slots-requires-clause-slots : goal.put_slots-requires-clause-slots
put_slots-requires-clause-slots c =
    fits_room c.args.width c.args.fields.now c.read.new.fields c.in-Some.head _ c.requires c.in-Some.ensures c.in-Slot.is

pub returns-in-Slot : goal.returns-in-Slot
returns-in-Slot c =
    on_ok_weaker c.put_slots.result
    (puts_slots c.args.width c.args.fields.now c.read.new.fields c.in-Some.head c.in-Slot.sbid c.in-Slot.index c.args.pages.now
    c.put_slots.new.pages c.in-Some.ensures c.in-Slot.is)
    c.put_slots.ensures
