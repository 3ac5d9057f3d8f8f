use Rattle.std.proofs.Common.{rules, ◌≢◌}
use Rattle.std.specs.Prelude.{codes}
use Rattle.script_text.specs.Prelude.{coll_word, object_word}
use Rattle.script_text.specs.declared.about.CollWord.{CollWord}
use Rattle.script_text.specs.declared.about.ObjectWord.{ObjectWord}
use Rattle.script_text.proofs.grammar.read_words.Goals as goal

pub read_other_words-requires-clause-other : goal.read_other_words-requires-clause-other
read_other_words-requires-clause-other c =
    let no_write : c.args.word.now ≢ codes "write" = search rules in
    let no_read : c.args.word.now ≢ codes "read" = search rules in
    let no_object : (w : ObjectWord) → c.args.word.now ≢ object_word w = search rules in
    let no_coll : (w : CollWord) → c.args.word.now ≢ coll_word w = search rules in
    record { no_write = no_write; no_read = no_read; no_object = no_object; no_coll = no_coll }
