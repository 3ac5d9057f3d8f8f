use Rattle.command_words.proofs.Spelled.{spelled_line}
use Rattle.command_words.proofs.laws.a_spelled_line_is_one.Goals as goal

pub returns : goal.returns
returns c = spelled_line
