use Rattle.std.proofs.Common.{refl}
use Rattle.script_text.proofs.Finding.{handed_on}
use Rattle.script_text.proofs.Forms.{no_size, size_words, size_named}
use Rattle.script_text.proofs.grammar.read_size.Goals as goal

pub returns-in_default : goal.returns-in_default
returns-in_default c same x is = no_size c.args.text.now x.0 x.1 x.2 c.in_default.ensures is

pub returns-in_default-read_number : goal.returns-in_default-read_number
returns-in_default-read_number c same x is =
    c.in_default-read_number.ensures x.2 (size_words c.args.text.now c.in-Some.coll.now c.in-Some.object.now c.in-Some.size.now x.0 x.1 x.2
    c.in-Some.ensures.0 c.in-Some.ensures.1 is).sized

pub returns-in_err-coll : goal.returns-in_err-coll
returns-in_err-coll c =
    handed_on _ _ _ _ c.from_residual.ensures c.in_err-coll.ensures (λ x is.
    let words = size_words c.args.text.now c.in-Some.coll.now c.in-Some.object.now c.in-Some.size.now x.0 x.1 x.2
    c.in-Some.ensures.0 c.in-Some.ensures.1 is in
    ((c.in-Some.coll.now, x.1), (refl, words.named, words.names)))

pub returns : goal.returns
returns c =
    let both = c.in_ok-coll.ensures in
    size_named c.args.text.now c.in-Some.coll.now c.in-Some.object.now c.in-Some.size.now c.in_ok-coll.coll c.in_ok-coll.object c.in-Some-read_number.size
    c.in-Some.ensures.1 both.0 both.1 both.2 c.in-Some-read_number.ensures
