use Rattle.std.proofs.Common.{refl}
use Rattle.std.specs.Prelude.{codes}
use Rattle.script_text.proofs.Splits.{has_none}
use Rattle.script_text.proofs.Forms.{no_four, four_read}
use Rattle.script_text.proofs.grammar.read_write.Goals as goal

pub returns-in_default : goal.returns-in_default
returns-in_default c same what line = no_four c.args.rest.now what c.in_default.ensures line

pub returns : goal.returns
returns c =
    four_read (codes "write") c.args.rest.now c.in-Some.coll.now c.in-Some.object.now c.in-Some.off.now c.in-Some.data.now c.write_of.result
    (has_none 0x20 (codes "write") refl) c.in-Some.ensures.0 c.in-Some.ensures.1 c.write_of.ensures
