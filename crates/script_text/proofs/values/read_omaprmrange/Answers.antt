use Rattle.script_text.proofs.Finding.{handed_on}
use Rattle.script_text.proofs.ValueForms.{omaprmrange_says, omaprmrange_line}
use Rattle.script_text.proofs.values.read_omaprmrange.Goals as goal

pub returns-in_err-coll : goal.returns-in_err-coll
returns-in_err-coll c =
    handed_on _ _ _ _ c.from_residual.ensures c.in_err-coll.ensures (omaprmrange_says c.args.rest.now)

pub returns : goal.returns
returns c =
    omaprmrange_line c.args.rest.now c.in_ok-coll.coll c.in_ok-coll.object c.in_ok-coll.first c.in_ok-coll.last c.op.result c.in_ok-coll.ensures c.op.ensures
