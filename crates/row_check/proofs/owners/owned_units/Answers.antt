use Rattle.meta_log.specs.Prelude.{width_of}
use Rattle.row_check.proofs.ExactUnits.{owned_below}
use Rattle.row_check.proofs.owners.owned_units.Goals as goal

pub returns-clause-below : goal.returns-clause-below
returns-clause-below c =
    owned_below (width_of c.args.sup.now) c.args.rows.now.rows c.in_ok-marks.marks c.args.sup.now.units c.in_ok-marks.ensures.0
    c.in_ok-marks.ensures.1
