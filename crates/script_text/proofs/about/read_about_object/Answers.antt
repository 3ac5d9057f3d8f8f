use Rattle.script_text.proofs.Finding.{handed_on}
use Rattle.script_text.proofs.AboutForms.{object_has, object_line}
use Rattle.script_text.proofs.about.read_about_object.Goals as goal

pub returns-in_err-coll : goal.returns-in_err-coll
returns-in_err-coll c = handed_on _ _ _ _ c.from_residual.ensures c.in_err-coll.ensures (object_has c.args.word c.args.rest.now)

pub returns : goal.returns
returns c =
    object_line c.args.word c.args.rest.now c.in_ok-coll.coll c.in_ok-coll.object c.said_of_object.result c.in_ok-coll.ensures c.said_of_object.ensures
