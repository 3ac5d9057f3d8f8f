use Rattle.script_text.proofs.Scripts.{one_bad}
use Rattle.script_text.proofs.laws.one_bad_line.Goals as goal

pub returns : goal.returns
returns c = one_bad
