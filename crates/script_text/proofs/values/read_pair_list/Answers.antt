use Rattle.std.proofs.Common.{refl}
use Rattle.script_text.specs.Prelude.{in_words}
use Rattle.script_text.proofs.Finding.{handed_on, found_both}
use Rattle.script_text.proofs.Lists.{pairs_stand, pairs_parts, pairs_named}
use Rattle.script_text.proofs.values.read_pair_list.Goals as goal

pub returns-in_default : goal.returns-in_default
returns-in_default c same x is =
    c.in_default.ensures x.0.0 is.are.object_word (in_words is.are.pair_words) (pairs_stand c.args.text.now x.0.0 x.0.1 x.1 is)

pub returns-in_err-names : goal.returns-in_err-names
returns-in_err-names c =
    handed_on _ _ _ _ c.from_residual.ensures c.in_err-names.ensures (λ x is.
    let words = pairs_parts c.args.text.now c.in-Some.coll.now c.in-Some.object.now c.in-Some.rest.now x.0.0 x.0.1 x.1 c.in-Some.ensures is in
    ((c.in-Some.coll.now, x.0.1), (refl, words.named, words.names)))

pub returns : goal.returns
returns c =
    let both = c.in_ok-names.ensures in
    found_both _ _ c.in_ok-names.names c.read_pairs.result c.both.result c.both.ensures
    (λ y read. pairs_named c.args.text.now c.in-Some.coll.now c.in-Some.object.now c.in-Some.rest.now c.in_ok-names.names.0 c.in_ok-names.names.1 y
    c.in-Some.ensures both.0 both.1 both.2 read)
    (λ x is. (x.1, (pairs_parts c.args.text.now c.in-Some.coll.now c.in-Some.object.now c.in-Some.rest.now x.0.0 x.0.1 x.1 c.in-Some.ensures is).spells)) c.read_pairs.ensures
