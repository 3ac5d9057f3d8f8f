use Rattle.unit_fields.specs.Prelude.{IsName, IsCollName}
use Rattle.row_reading.specs.Reading.{IsNoPart}
use Rattle.row_reading.proofs.KeyReading.{cut_twice, no_first_zero, no_second_zero, no_part, no_coll, no_object}
use Rattle.row_reading.proofs.key.read_object.Goals as goal

pub returns-in_default : goal.returns-in_default
returns-in_default c = no_first_zero c.args.kind c.args.bytes.now c.in_default.ensures

pub returns-in_default-until_zero : goal.returns-in_default-until_zero
returns-in_default-until_zero c =
    no_second_zero c.args.kind c.args.bytes.now c.in-Some.coll.now c.in-Some.rest.now c.in-Some.ensures.0 c.in-Some.ensures.1 c.in_default-until_zero.ensures

pub returns-in_default-2 : goal.returns-in_default-2
returns-in_default-2 c =
    let first = c.in-Some in
    let second = c.in-Some-until_zero in
    let cut = cut_twice c.args.bytes.now first.coll.now first.rest.now second.object.now second.rest.now first.ensures.0 second.ensures.0 first.ensures.1 second.ensures.1 in
    let none : IsNoPart c.args.kind second.rest.now = rw c.in_default-2.is at c.in_ok-part.ensures in
    no_part c.args.kind c.args.bytes.now first.coll.now second.object.now second.rest.now cut none

pub returns-in_default-3 : goal.returns-in_default-3
returns-in_default-3 c =
    let first = c.in-Some in
    let second = c.in-Some-until_zero in
    let cut = cut_twice c.args.bytes.now first.coll.now first.rest.now second.object.now second.rest.now first.ensures.0 second.ensures.0 first.ensures.1 second.ensures.1 in
    let none : ¬ (IsCollName c.in-Some.coll.now) = rw c.in_default-3.is at c.in_ok-coll.ensures in
    no_coll c.args.kind c.args.bytes.now first.coll.now second.object.now second.rest.now cut none

pub returns-in_default-4 : goal.returns-in_default-4
returns-in_default-4 c =
    let first = c.in-Some in
    let second = c.in-Some-until_zero in
    let cut = cut_twice c.args.bytes.now first.coll.now first.rest.now second.object.now second.rest.now first.ensures.0 second.ensures.0 first.ensures.1 second.ensures.1 in
    let none : ¬ (IsName c.in-Some-until_zero.object.now) = rw c.in_default-4.is at c.in_ok-object.ensures in
    no_object c.args.kind c.args.bytes.now first.coll.now second.object.now second.rest.now cut none
