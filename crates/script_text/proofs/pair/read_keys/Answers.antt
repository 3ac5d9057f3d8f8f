use Rattle.script_text.proofs.Finding.{handed_on}
use Rattle.script_text.proofs.Lists.{keys_none, key_behind, keys_more, key_last, keys_end}
use Rattle.script_text.proofs.pair.read_keys.Goals as goal

pub keys-init : goal.keys-init
keys-init c = keys_none c.args.text.now _ c.new-keys.ensures

pub returns-in_err-key : goal.returns-in_err-key
returns-in_err-key c =
    handed_on _ _ _ _ c.from_residual.ensures c.in_err-key.ensures (λ all is.
    let first = key_behind c.args.text.now c.keys.rest.now c.in-Some.word.now c.in-Some.behind.now c.keys.keys all c.keys.invariant
    c.in-Some.ensures.0 c.in-Some.ensures.1 is in
    (first.key, first.names))

pub keys-preserved : goal.keys-preserved
keys-preserved c =
    keys_more c.args.text.now c.keys.rest.now c.in-Some.word.now c.in-Some.behind.now c.in_ok-key.key c.keys.keys c.push.new.self c.keys.invariant
    c.in-Some.ensures.0 c.in-Some.ensures.1 c.in_ok-key.ensures c.in_ok-push.ensures.ok

pub returns-in_err-last : goal.returns-in_err-last
returns-in_err-last c =
    handed_on _ _ _ _ c.from_residual-in_err-last.ensures c.in_err-last.ensures (λ all is.
    key_last c.args.text.now c.keys.rest.now c.keys.keys all c.keys.invariant c.in_default.ensures is)

pub returns : goal.returns
returns c =
    keys_end c.args.text.now c.keys.rest.now c.in_ok-last.last c.keys.keys c.push-2.new.self c.keys.invariant c.in_ok-last.ensures c.in_ok-push-2.ensures.ok
