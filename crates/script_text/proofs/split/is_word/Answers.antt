use Rattle.script_text.proofs.Words.{word_test}
use Rattle.script_text.proofs.split.is_word.Goals as goal

pub returns : goal.returns
returns c = word_test c.args.text.now c.split_once.result c.is_none.result c.is_none.ensures c.split_once.ensures
