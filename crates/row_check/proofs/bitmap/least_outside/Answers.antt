use Rattle.row_check.proofs.LeastUnits.{none_of_same, none_outside, least_at}
use Rattle.row_check.proofs.bitmap.least_outside.Goals as goal

pub returns-then-are_same : goal.returns-then-are_same
returns-then-are_same c = none_of_same c.args.units.now c.args.others.now (c.are_same.ensures c.if-are_same.true)

pub returns-in-Some : goal.returns-in-Some
returns-in-Some c =
    let us = c.as_slice-units.result.now in
    let found = c.in-Some.ensures.found in
    least_at us c.args.units.now c.as_slice-units.ensures.units c.args.others.now c.in-Some.place
    c.as_slice-units.ensures.ascending found.0 found.1 c.in-Some.ensures.before

pub returns-in-None : goal.returns-in-None
returns-in-None c =
    none_outside c.as_slice-units.result.now c.args.units.now c.as_slice-units.ensures.units c.args.others.now c.in-None.ensures.none
