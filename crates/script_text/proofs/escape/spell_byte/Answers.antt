use Rattle.std.proofs.Common.{ℕ, List, [], ◌∷◌, ◌++◌, ◌/◌, ap, sym, ◌∙◌}
use Rattle.script_text.specs.Prelude.{hex_digit_from, hex_pair}
use Rattle.script_text.proofs.Names.{escape_plain, escape_other}
use Rattle.script_text.proofs.escape.spell_byte.Goals as goal

pub returns-then-is_plain_byte : goal.returns-then-is_plain_byte
returns-then-is_plain_byte c =
    c.push.ensures.items ∙ ap (λ (l : List ℕ). l ++ (c.args.byte ∷ [])) c.new-spelling.ensures
    ∙ sym (escape_plain c.args.byte (sym c.is_plain_byte.ensures ∙ c.if-is_plain_byte.true))

pub returns-else-is_plain_byte : goal.returns-else-is_plain_byte
unfolding hex_pair
returns-else-is_plain_byte c =
    let byte = c.args.byte in
    c.push-else-is_plain_byte-3.ensures.items
    ∙ ap (λ (l : List ℕ). l ++ (c.capital_digit-else-is_plain_byte.result ∷ []))
    (c.push-else-is_plain_byte-2.ensures.items ∙ ap (λ (l : List ℕ). l ++ (c.capital_digit.result ∷ []))
    (c.push-else-is_plain_byte.ensures.items ∙ ap (λ (l : List ℕ). l ++ (0x25 ∷ [])) c.new-spelling.ensures))
    ∙ ap (λ (h : ℕ). 0x25 ∷ h ∷ c.capital_digit-else-is_plain_byte.result ∷ []) c.capital_digit.ensures
    ∙ ap (λ (l : ℕ). 0x25 ∷ hex_digit_from 0x41 (byte / 16) ∷ l ∷ []) c.capital_digit-else-is_plain_byte.ensures
    ∙ sym (escape_other byte (sym c.is_plain_byte.ensures ∙ c.if-is_plain_byte.false))
