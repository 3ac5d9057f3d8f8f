use Rattle.std.proofs.Common.{◌≡◌, true, false, ◌∙◌}
use Rattle.script_text.proofs.Numbers.{plain_number, number_utf8, number_read, is_text, text_of}
use Rattle.script_text.proofs.number.read_number.Goals as goal

pub returns-then-not-is_plain_number : goal.returns-then-not-is_plain_number
returns-then-not-is_plain_number c n is = let yes = c.is_plain_number.ensures.1 (plain_number c.args.word.now n is) in absurd cc

pub returns-in_err-text : goal.returns-in_err-text
returns-in_err-text c = rw c.from_residual.ensures (λ n is.
    let read = is_text _ _ c.from_utf8.result (number_utf8 c.args.word.now n is) c.from_utf8.ensures.cases in
    let never : false ≡ true = c.in_err-text.ensures.variant ∙ read in
    absurd cc)

pub returns : goal.returns
returns c =
    let plain = c.is_plain_number.ensures.0 cc in
    let text = text_of _ _ c.from_utf8.result c.in_ok-text.text c.from_utf8.ensures.cases c.in_ok-text.ensures.value in
    number_read c.args.word.now c.parse.result c.ok-2.result c.ok-2.ensures.value plain (rw text at c.parse.ensures.value.0)
