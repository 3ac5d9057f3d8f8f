use Rattle.std.proofs.Common.{refl}
use Rattle.script_text.proofs.Finding.{handed_on, found_both}
use Rattle.script_text.proofs.ValueForms.{no_value, value_words, value_named}
use Rattle.script_text.proofs.values.read_value.Goals as goal

pub returns-in_default : goal.returns-in_default
returns-in_default c same x is = no_value c.args.text.now x.0.0 x.0.1 x.1 c.in_default.ensures is

pub returns-in_err-names : goal.returns-in_err-names
returns-in_err-names c =
    handed_on _ _ _ _ c.from_residual.ensures c.in_err-names.ensures (λ x is.
    let words = value_words c.args.text.now c.in-Some.coll.now c.in-Some.object.now c.in-Some.name.now x.0.0 x.0.1 x.1 c.in-Some.ensures.0 c.in-Some.ensures.1 is in
    ((c.in-Some.coll.now, x.0.1), (refl, words.0, words.1)))

pub returns : goal.returns
returns c =
    let both = c.in_ok-names.ensures in
    found_both _ _ c.in_ok-names.names c.read_name.result c.both.result c.both.ensures
    (λ y read. value_named c.args.text.now c.in-Some.coll.now c.in-Some.object.now c.in-Some.name.now c.in_ok-names.names.0 c.in_ok-names.names.1 y c.in-Some.ensures.1 both.0 both.1 both.2 read)
    (λ x is. let words = value_words c.args.text.now c.in-Some.coll.now c.in-Some.object.now c.in-Some.name.now x.0.0 x.0.1 x.1 c.in-Some.ensures.0 c.in-Some.ensures.1 is in (x.1, words.2)) c.read_name.ensures
