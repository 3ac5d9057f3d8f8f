use Rattle.script_text.proofs.Finding.{handed_on, found_both}
use Rattle.script_text.proofs.values.read_two_keys.Goals as goal

pub returns-in_err-first : goal.returns-in_err-first
returns-in_err-first c = handed_on _ _ _ _ c.from_residual.ensures c.in_err-first.ensures (λ x is. (x.0, is.0))

pub returns : goal.returns
returns c =
    found_both _ _ c.in_ok-first.first c.read_name-2.result c.both.result c.both.ensures (λ last names. (c.in_ok-first.ensures, names)) (λ x is. (x.1, is.1))
    c.read_name-2.ensures
