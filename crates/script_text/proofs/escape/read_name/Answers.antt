use Rattle.std.proofs.Common.{rules, arith, ◌≡◌}
use Rattle.std.specs.Prelude.{true}
use Rattle.std.specs.List.{AllByRecursion}
use Rattle.script_text.specs.Prelude.{is_plain}
use Rattle.script_text.proofs.Names.{name_read, name_word_short, plain_spelled}
use Rattle.script_text.proofs.escape.read_name.Goals as goal

pub returns-then-word-gt-WORD_LIMIT : goal.returns-then-word-gt-WORD_LIMIT
returns-then-word-gt-WORD_LIMIT c same name is = let short = name_word_short c.args.word.now name is in omega arith

pub returns-then-is_plain_word : goal.returns-then-is_plain_word
returns-then-is_plain_word c =
    let plain : AllByRecursion (λ b. is_plain b ≡ true) c.args.word.now = search rules in
    let spelled = plain_spelled c.args.word.now plain in
    name_read c.args.word.now c.args.word.now _ spelled.0 spelled.1 c.name_of.ensures

pub returns : goal.returns
returns c =
    name_read c.args.word.now c.in_ok-bytes.bytes.items _ c.in_ok-bytes.ensures.0 c.in_ok-bytes.ensures.1 (rw c.as_slice.ensures.value at c.name_of-2.ensures)
