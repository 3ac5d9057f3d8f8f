use Rattle.std.proofs.Common.{◌≡◌, ◌/◌, ◌%◌, List, [], ◌∷◌, ◌++◌, ℕ, ap, ◌∙◌, arith}
use Rattle.script_text.specs.Prelude.{hex_pair, hex_digit_from}
use Rattle.script_text.proofs.Digits.{pair_of_digits}
use Rattle.script_text.proofs.hex.split_pair.Goals as goal

pub returns-in_default : goal.returns-in_default
unfolding hex_pair
returns-in_default c b rest lt is = cc (c.in_default.ensures, is)

pub returns-in_default-split_first : goal.returns-in_default-split_first
unfolding hex_pair
returns-in_default-split_first c b rest lt is = cc (c.in-Some.ensures.1, c.in_default-split_first.ensures, is)

pub returns-in_default-digit_of : goal.returns-in_default-digit_of
unfolding hex_pair
returns-in_default-digit_of c b rest lt is =
    let high : c.in-Some.high ≡ hex_digit_from c.args.ten (b / 16) = cc (c.in-Some.ensures.1, is) in
    c.in_default-digit_of.ensures (b / 16) (omega arith) high

pub returns-in_default-digit_of-2 : goal.returns-in_default-digit_of-2
unfolding hex_pair
returns-in_default-digit_of-2 c b rest lt is =
    let low : c.in-Some-split_first.low ≡ hex_digit_from c.args.ten (b % 16) = cc (c.in-Some.ensures.1, c.in-Some-split_first.ensures.1, is) in
    c.in_default-digit_of-2.ensures (b % 16) (omega arith) low

pub returns : goal.returns
returns c =
    let d = c.in-Some-digit_of.high in
    let e = c.in-Some-digit_of-2.low in
    let rest = c.in-Some-split_first.rest.now in
    let high = c.in-Some-digit_of.ensures in
    let low = c.in-Some-digit_of-2.ensures in
    let digits : c.args.text.now ≡ (hex_digit_from c.args.ten d ∷ hex_digit_from c.args.ten e ∷ []) ++ rest = cc
    (c.in-Some.ensures.1, c.in-Some-split_first.ensures.1, high.1, low.1) in
    (omega (arith, high.0, low.0), digits ∙ ap (λ (l : List ℕ). l ++ rest) (pair_of_digits c.args.ten d e high.0 low.0))
