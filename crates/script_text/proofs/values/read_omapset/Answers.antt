use Rattle.std.proofs.Common.{ap, ◌∙◌}
use Rattle.object_model.specs.declared.op.Op.{Op}
use Rattle.script_text.specs.Prelude.{op_line}
use Rattle.script_text.proofs.Finding.{handed_on}
use Rattle.script_text.proofs.ValueForms.{omapset_says, omapset_line}
use Rattle.script_text.proofs.values.read_omapset.Goals as goal

pub returns-in_err-coll : goal.returns-in_err-coll
returns-in_err-coll c =
    handed_on _ _ _ _ c.from_residual.ensures c.in_err-coll.ensures (omapset_says c.args.rest.now)

pub returns : goal.returns
returns c =
    omapset_line c.args.rest.now c.in_ok-coll.coll c.in_ok-coll.object c.in_ok-coll.pairs c.kept_op.result c.in_ok-coll.ensures
    (c.kept_op.ensures ∙ ap (λ (o : Op). op_line c.in_ok-coll.coll o) c.omap_set-op.ensures)
