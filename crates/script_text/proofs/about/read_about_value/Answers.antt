use Rattle.script_text.proofs.Finding.{handed_on}
use Rattle.script_text.proofs.AboutForms.{value_has, value_line}
use Rattle.script_text.proofs.about.read_about_value.Goals as goal

pub returns-in_err-coll : goal.returns-in_err-coll
returns-in_err-coll c = handed_on _ _ _ _ c.from_residual.ensures c.in_err-coll.ensures (value_has c.args.word c.args.rest.now)

pub returns : goal.returns
returns c =
    value_line c.args.word c.args.rest.now c.in_ok-coll.coll c.in_ok-coll.object c.in_ok-coll.name c.said_of_value.result c.in_ok-coll.ensures
    c.said_of_value.ensures
