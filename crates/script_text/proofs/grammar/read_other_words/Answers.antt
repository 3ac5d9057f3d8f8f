use Rattle.std.proofs.Common.{rules, ◌≢◌}
use Rattle.std.specs.Prelude.{codes}
use Rattle.script_text.specs.Prelude.{value_word}
use Rattle.script_text.specs.declared.about.ValueWord.{ValueWord}
use Rattle.script_text.proofs.grammar.read_other_words.Goals as goal

pub read_value_words-requires-clause-later : goal.read_value_words-requires-clause-later
read_value_words-requires-clause-later c =
    let no_zero : c.args.word.now ≢ codes "zero" = search rules in
    let no_truncate : c.args.word.now ≢ codes "truncate" = search rules in
    let no_value : (w : ValueWord) → c.args.word.now ≢ value_word w = search rules in
    record { other = c.requires.other; no_zero = no_zero; no_truncate = no_truncate; no_value = no_value }
