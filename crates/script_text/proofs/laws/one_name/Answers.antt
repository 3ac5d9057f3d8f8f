use Rattle.script_text.proofs.Names.{same_name}
use Rattle.script_text.proofs.laws.one_name.Goals as goal

pub returns : goal.returns
returns c = same_name
