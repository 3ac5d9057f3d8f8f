use Rattle.script_text.proofs.Forms.{line_says_one}
use Rattle.script_text.proofs.laws.one_meaning.Goals as goal

pub returns : goal.returns
returns c = line_says_one
