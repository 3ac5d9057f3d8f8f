use Rattle.script_text.proofs.Finding.{handed_on, found_both}
use Rattle.script_text.proofs.grammar.read_names_and_data.Goals as goal

pub returns-in_err-names : goal.returns-in_err-names
returns-in_err-names c = handed_on _ _ _ _ c.from_residual.ensures c.in_err-names.ensures (λ x is. (x.0, (is.0, is.1, is.2)))

pub returns : goal.returns
returns c =
    let both = c.in_ok-names.ensures in
    found_both _ _ c.in_ok-names.names c.read_data.result c.both.result c.both.ensures (λ bytes holds. (both.0, both.1, both.2, holds))
    (λ x is. (x.1, is.3)) c.read_data.ensures
