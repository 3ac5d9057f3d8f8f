use Rattle.script_text.proofs.Finding.{handed_on}
use Rattle.script_text.proofs.AboutForms.{coll_has, coll_line}
use Rattle.script_text.proofs.about.read_about_coll.Goals as goal

pub returns-in_err-coll : goal.returns-in_err-coll
returns-in_err-coll c = handed_on _ _ _ _ c.from_residual.ensures c.in_err-coll.ensures (coll_has c.args.word c.args.rest.now)

pub returns : goal.returns
returns c =
    coll_line c.args.word c.args.rest.now c.in_ok-coll.coll c.said_of_coll.result c.in_ok-coll.ensures.0 c.in_ok-coll.ensures.1 c.said_of_coll.ensures
