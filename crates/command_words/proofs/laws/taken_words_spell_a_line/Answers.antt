use Rattle.command_words.proofs.TakenLines.{taken_spells}
use Rattle.command_words.proofs.laws.taken_words_spell_a_line.Goals as goal

pub returns : goal.returns
returns c = taken_spells
