use Rattle.std.proofs.Common.{◌≢◌, ◌<◌, [], length, subst, rules}
use Rattle.row_reading.specs.Slots.{slots_size, ReadsSlots, ReadsRun, BeginsWithNoRun}
use Rattle.row_reading.proofs.RowReading.{no_run, few_slots, more_bytes}
use Rattle.row_reading.proofs.row.read_blob.Goals as goal

pub returns-in_default : goal.returns-in_default
returns-in_default c =
    no_run c.args.width c.args.sbid c.ranges.sbid.fits c.args.value.now (subst BeginsWithNoRun c.new-fields.ensures c.in_default.ensures)

pub returns-in_default-2 : goal.returns-in_default-2
returns-in_default-2 c =
    let run : ReadsRun c.args.value.now c.read_run.new.fields c.in-Some.units.first c.in-Some.units.count = search rules in
    let few : length c.read_run.new.fields < slots_size c.args.width c.in-Some.units.count = rw c.in_default-2.is at c.in_ok-slots.ensures in
    few_slots c.args.width c.args.sbid c.ranges.sbid.fits c.args.value.now c.read_run.new.fields c.in-Some.units.first c.in-Some.units.count run few

pub returns-then-not-is_empty : goal.returns-then-not-is_empty
returns-then-not-is_empty c =
    let run : ReadsRun c.args.value.now c.read_run.new.fields c.in-Some.units.first c.in-Some.units.count = search rules in
    let slots : ReadsSlots c.args.width c.in-Some.units.count c.read_run.new.fields c.read_slots.new.fields c.in-Some-2.slots =
    rw c.in-Some-2.is at c.in_ok-slots.ensures in
    let some : c.read_slots.new.fields ≢ [] = search rules in
    more_bytes c.args.width c.args.sbid c.ranges.sbid.fits c.args.value.now c.read_run.new.fields c.in-Some.units.first c.in-Some.units.count run
    c.read_slots.new.fields c.in-Some-2.slots slots some
