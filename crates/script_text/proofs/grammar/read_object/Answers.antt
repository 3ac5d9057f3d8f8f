use Rattle.std.proofs.Common.{refl}
use Rattle.script_text.proofs.Finding.{found_as}
use Rattle.script_text.proofs.Forms.{no_names, two_names, object_named}
use Rattle.script_text.proofs.grammar.read_object.Goals as goal

pub returns-in_default : goal.returns-in_default
returns-in_default c same x is = no_names c.args.text.now x.0 x.1 c.in_default.ensures is

pub returns : goal.returns
returns c =
    let text = c.args.text.now in
    let a = c.in-Some.coll.now in
    let b = c.in-Some.object.now in
    found_as _ _ c.read_names.result (λ x both. object_named text a b x.0 x.1 c.in-Some.ensures.1 both.0 both.1 both.2)
    (λ x is. let words = two_names text a b x.0 x.1 c.in-Some.ensures.0 c.in-Some.ensures.1 is in ((a, x.1), (refl, words.0, words.1)))
    c.read_names.ensures
