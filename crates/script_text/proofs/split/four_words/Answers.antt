use Rattle.std.proofs.Common.{[], ◌∷◌}
use Rattle.script_text.proofs.Words.{cut_word, no_words}
use Rattle.script_text.proofs.split.four_words.Goals as goal

pub returns-in_default : goal.returns-in_default
returns-in_default c w a b d are is = no_words c.args.text.now w a (b ∷ d ∷ []) c.in_default.ensures is

pub returns-in_default-three_words : goal.returns-in_default-three_words
returns-in_default-three_words c w a b d are is =
    let both = cut_word c.args.text.now c.in-Some.first.now c.in-Some.rest.now w a (b ∷ d ∷ []) c.in-Some.ensures.0 c.in-Some.ensures.1 are is in
    c.in_default-three_words.ensures a b d are.1 both.1
