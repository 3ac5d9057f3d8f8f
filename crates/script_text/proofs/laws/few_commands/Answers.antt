use Rattle.script_text.proofs.Groups.{lines_few}
use Rattle.script_text.proofs.laws.few_commands.Goals as goal

pub returns : goal.returns
returns c = lines_few
