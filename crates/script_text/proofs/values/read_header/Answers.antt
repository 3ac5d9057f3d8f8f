use Rattle.std.proofs.Common.{refl}
use Rattle.script_text.proofs.Finding.{found_as}
use Rattle.script_text.proofs.ValueForms.{no_header, header_words, header_named}
use Rattle.script_text.proofs.values.read_header.Goals as goal

pub returns-in_default : goal.returns-in_default
returns-in_default c same x is = no_header c.args.text.now x.0.0 x.0.1 x.1 c.in_default.ensures is

pub returns : goal.returns
returns c =
    let text = c.args.text.now in
    let a = c.in-Some.coll.now in
    let b = c.in-Some.object.now in
    let v = c.in-Some.value.now in
    found_as _ _ c.read_names_and_data.result (λ x are. header_named text a b v x.0.0 x.0.1 x.1 c.in-Some.ensures.1 are.0 are.1 are.2 are.3)
    (λ x is. let words = header_words text a b v x.0.0 x.0.1 x.1 c.in-Some.ensures.0 c.in-Some.ensures.1 is in (((a, x.0.1), x.1), (refl, words.0, words.1, words.2)))
    c.read_names_and_data.ensures
