use Rattle.script_text.proofs.Finding.{handed_on}
use Rattle.script_text.proofs.pair.read_pair.Goals as goal

pub returns-in_err-key : goal.returns-in_err-key
returns-in_err-key c = handed_on _ _ _ _ c.from_residual.ensures c.in_err-key.ensures (λ p is. (p.key, is.names))
