use Rattle.std.proofs.Common.{refl}
use Rattle.script_text.proofs.Finding.{handed_on, found_both}
use Rattle.script_text.proofs.grammar.read_names.Goals as goal

pub returns-in_err-coll : goal.returns-in_err-coll
returns-in_err-coll c = handed_on _ _ _ _ c.from_residual.ensures c.in_err-coll.ensures (λ x is. (c.args.coll.now, (refl, is.1)))

pub returns : goal.returns
returns c =
    found_both _ _ c.in_ok-coll.coll c.read_name.result c.both.result c.both.ensures (λ object names. (c.in_ok-coll.ensures.0, c.in_ok-coll.ensures.1, names))
    (λ x is. (x.1, is.2)) c.read_name.ensures
