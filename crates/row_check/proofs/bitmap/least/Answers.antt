use Rattle.std.proofs.Common.{arith}
use Rattle.row_check.proofs.LeastUnits.{none_there, least_first}
use Rattle.row_check.proofs.bitmap.least.Goals as goal

pub returns-in-empty : goal.returns-in-empty
returns-in-empty c = none_there c.as_slice.result.now c.args.units.now c.as_slice.ensures.units (omega (arith, c.in-empty.len_below))

pub returns-in-len1-up : goal.returns-in-len1-up
returns-in-len1-up c =
    least_first c.as_slice.result.now c.args.units.now c.as_slice.ensures.units c.as_slice.ensures.ascending
    (omega (arith, c.in-len1-up.len_at_least))
