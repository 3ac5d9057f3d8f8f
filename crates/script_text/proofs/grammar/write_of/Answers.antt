use Rattle.std.proofs.Common.{ap, refl, ◌∙◌}
use Rattle.object_model.specs.declared.op.Op.{Op}
use Rattle.script_text.specs.Prelude.{op_line}
use Rattle.script_text.proofs.Finding.{handed_on}
use Rattle.script_text.proofs.Forms.{write_words, write_say}
use Rattle.script_text.proofs.grammar.write_of.Goals as goal

pub returns-in_default : goal.returns-in_default
returns-in_default c same what say =
    let of = write_words c.args.coll.now c.args.object.now c.args.off.now c.args.data_word.now what say.0 in c.in_default.ensures of.at of.offset

pub returns-in_err-coll : goal.returns-in_err-coll
returns-in_err-coll c =
    handed_on _ _ _ _ c.from_residual.ensures c.in_err-coll.ensures (λ what say.
    let of = write_words c.args.coll.now c.args.object.now c.args.off.now c.args.data_word.now what say.0 in
    (((c.args.coll.now, of.name), of.bytes), (refl, of.is_coll, of.names, of.spelled)))

pub returns : goal.returns
returns c =
    let are = c.in_ok-coll.ensures in
    write_say c.args.coll.now c.args.object.now c.args.off.now c.args.data_word.now c.in_ok-coll.coll c.in_ok-coll.object c.in-Some.off c.in_ok-coll.bytes
    c.kept_op.result are.0 are.1 are.2 c.in-Some.ensures are.3
    (c.kept_op.ensures ∙ ap (λ (o : Op). op_line c.in_ok-coll.coll o) c.write-op.ensures)
