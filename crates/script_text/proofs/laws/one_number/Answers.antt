use Rattle.script_text.proofs.Numbers.{same_number}
use Rattle.script_text.proofs.laws.one_number.Goals as goal

pub returns : goal.returns
returns c = same_number
