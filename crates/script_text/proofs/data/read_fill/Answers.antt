use Rattle.std.proofs.Common.{◌≡◌, [], ◌∷◌, ◌∙◌, sym, arith}
use Rattle.std.specs.Prelude.{decimal}
use Rattle.script_text.proofs.DataWords.{fill_parts, fill_number}
use Rattle.script_text.proofs.Numbers.{same_number}
use Rattle.script_text.proofs.data.read_fill.Goals as goal

pub returns-in_default-split_first : goal.returns-in_default-split_first
returns-in_default-split_first c b n is =
    let both = fill_parts c.args.text.now b n c.in-Some.byte c.in-Some.rest.now is c.in-Some.ensures.1 in
    let none : 0x3a ∷ decimal n ≡ [] = sym both.1 ∙ c.in_default-split_first.ensures in cc

pub returns-then-colon-ne58 : goal.returns-then-colon-ne58
returns-then-colon-ne58 c b n is =
    let both = fill_number c.args.text.now b n c.in-Some.byte c.in-Some-split_first.colon c.in-Some.rest.now c.in-Some-split_first.number.now is
    c.in-Some.ensures.1 c.in-Some-split_first.ensures.1 in
    c.if-colon-ne58.true both.0

pub returns-in_default-read_number : goal.returns-in_default-read_number
returns-in_default-read_number c b n is =
    let both = fill_number c.args.text.now b n c.in-Some.byte c.in-Some-split_first.colon c.in-Some.rest.now c.in-Some-split_first.number.now is
    c.in-Some.ensures.1 c.in-Some-split_first.ensures.1 in
    c.in_default-read_number.ensures n both.1

pub returns-then-count-gt-FILL_LIMIT : goal.returns-then-count-gt-FILL_LIMIT
returns-then-count-gt-FILL_LIMIT c b n is =
    let both = fill_number c.args.text.now b n c.in-Some.byte c.in-Some-split_first.colon c.in-Some.rest.now c.in-Some-split_first.number.now is
    c.in-Some.ensures.1 c.in-Some-split_first.ensures.1 in
    let same = same_number c.in-Some-split_first.number.now c.in-Some-read_number.count n c.in-Some-read_number.ensures both.1 in
    let few = is.few in omega arith
