use Rattle.script_text.proofs.Finding.{handed_on}
use Rattle.script_text.proofs.Lists.{pairs_none, pair_behind, pairs_more, pair_not_two, pair_of_two, pairs_end}
use Rattle.script_text.proofs.pair.read_pairs.Goals as goal

pub pairs-init : goal.pairs-init
pairs-init c = pairs_none c.args.text.now _ c.new-pairs.ensures

pub returns-in_err-pair : goal.returns-in_err-pair
returns-in_err-pair c =
    handed_on _ _ _ _ c.from_residual.ensures c.in_err-pair.ensures (λ all is.
    let first = pair_behind c.args.text.now c.pairs.rest.now c.in-Some.key.now c.in-Some.value.now c.in-Some.behind.now c.pairs.pairs all c.pairs.invariant
    c.in-Some.ensures is in
    (first.first, first.spells))

pub pairs-preserved : goal.pairs-preserved
pairs-preserved c =
    pairs_more c.args.text.now c.pairs.rest.now c.in-Some.key.now c.in-Some.value.now c.in-Some.behind.now c.in_ok-pair.pair c.pairs.pairs c.push.new.self
    c.pairs.invariant c.in-Some.ensures c.in_ok-pair.ensures c.in_ok-push.ensures.ok

pub returns-in_default-two_words : goal.returns-in_default-two_words
returns-in_default-two_words c same all is =
    pair_not_two c.args.text.now c.pairs.rest.now c.pairs.pairs all c.pairs.invariant c.in_default.ensures c.in_default-two_words.ensures is

pub returns-in_err-last : goal.returns-in_err-last
returns-in_err-last c =
    handed_on _ _ _ _ c.from_residual-in_err-last.ensures c.in_err-last.ensures (λ all is.
    pair_of_two c.args.text.now c.pairs.rest.now c.in-Some-two_words.key.now c.in-Some-two_words.value.now c.pairs.pairs all c.pairs.invariant
    c.in_default.ensures c.in-Some-two_words.ensures.0 c.in-Some-two_words.ensures.1 is)

pub returns : goal.returns
returns c =
    pairs_end c.args.text.now c.pairs.rest.now c.in-Some-two_words.key.now c.in-Some-two_words.value.now c.in_ok-last.last c.pairs.pairs c.push-2.new.self
    c.pairs.invariant c.in-Some-two_words.ensures.1 c.in_ok-last.ensures c.in_ok-push-2.ensures.ok
