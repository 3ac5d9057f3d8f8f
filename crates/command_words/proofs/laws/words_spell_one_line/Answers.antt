use Rattle.command_words.proofs.OneLine.{one_line}
use Rattle.command_words.proofs.laws.words_spell_one_line.Goals as goal

pub returns : goal.returns
returns c = one_line
