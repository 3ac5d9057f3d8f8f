use Rattle.std.proofs.Common.{◌≡◌, ◌∷◌, ap, ◌∙◌}
use Rattle.script_text.proofs.Names.{no_escape, plain_text, other_text, pair_text, plain_pair}
use Rattle.script_text.proofs.escape.split_byte.Goals as goal

pub returns-in_default : goal.returns-in_default
returns-in_default c b rest lt is = no_escape b rest c.args.text.now c.in_default.ensures is

pub returns-then-is_plain_byte : goal.returns-then-is_plain_byte
returns-then-is_plain_byte c = (
  c.in-Some.ensures.0,
  plain_text c.in-Some.first c.args.text.now c.in-Some.rest.now c.is_plain_byte.result
      c.is_plain_byte.ensures c.if-is_plain_byte.true c.in-Some.ensures.1,
)

pub returns-then-first-ne37 : goal.returns-then-first-ne37
returns-then-first-ne37 c b rest lt is =
    c.if-first-ne37.true (other_text c.in-Some.first c.in-Some.rest.now b rest c.args.text.now c.is_plain_byte.result c.is_plain_byte.ensures
    c.if-is_plain_byte.false c.in-Some.ensures.1 is).0

pub returns-in_default-split_pair : goal.returns-in_default-split_pair
returns-in_default-split_pair c b rest lt is =
    c.in_default-split_pair.ensures b rest lt
    (other_text c.in-Some.first c.in-Some.rest.now b rest c.args.text.now c.is_plain_byte.result c.is_plain_byte.ensures c.if-is_plain_byte.false
    c.in-Some.ensures.1 is).2

pub returns-then-is_plain_byte-2 : goal.returns-then-is_plain_byte-2
returns-then-is_plain_byte-2 c b rest lt is =
    plain_pair c.in-Some.first c.in-Some.rest.now b c.in-Some-split_pair.byte rest c.in-Some-split_pair.rest.now c.args.text.now c.is_plain_byte.result
    c.is_plain_byte-2.result
    c.is_plain_byte.ensures c.if-is_plain_byte.false c.in-Some.ensures.1 c.in-Some-split_pair.ensures.1 c.is_plain_byte-2.ensures c.if-is_plain_byte-2.true is

pub returns : goal.returns
returns c =
    let front : c.args.text.now ≡ 0x25 ∷ c.in-Some.rest.now = c.in-Some.ensures.1 ∙ ap (λ b. b ∷ c.in-Some.rest.now) c.if-first-ne37.false in (
      c.in-Some-split_pair.ensures.0,
      pair_text c.in-Some-split_pair.byte c.in-Some.rest.now c.in-Some-split_pair.rest.now c.args.text.now c.is_plain_byte-2.result c.is_plain_byte-2.ensures
          c.if-is_plain_byte-2.false front
          c.in-Some-split_pair.ensures.1,
    )
