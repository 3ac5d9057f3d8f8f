use Rattle.script_text.proofs.Scripts.{script_has_no_bad}
use Rattle.script_text.proofs.laws.script_or_bad.Goals as goal

pub returns : goal.returns
returns c = script_has_no_bad
