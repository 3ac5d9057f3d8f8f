use Rattle.script_text.proofs.Finding.{handed_on}
use Rattle.script_text.proofs.ReadForms.{read_says, read_line}
use Rattle.script_text.proofs.grammar.read_read.Goals as goal

pub returns-in_err-coll : goal.returns-in_err-coll
returns-in_err-coll c =
    handed_on _ _ _ _ c.from_residual.ensures c.in_err-coll.ensures (read_says c.args.rest.now)

pub returns : goal.returns
returns c =
    rw c.read.ensures (read_line c.args.rest.now c.in_ok-coll.coll c.in_ok-coll.object c.in_ok-coll.off c.in_ok-coll.len c.in_ok-coll.ensures)
