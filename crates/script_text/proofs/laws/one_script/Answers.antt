use Rattle.script_text.proofs.Scripts.{one_list}
use Rattle.script_text.proofs.laws.one_script.Goals as goal

pub returns : goal.returns
returns c = one_list
