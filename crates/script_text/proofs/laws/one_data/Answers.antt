use Rattle.script_text.proofs.DataWords.{same_data}
use Rattle.script_text.proofs.laws.one_data.Goals as goal

pub returns : goal.returns
returns c = same_data
