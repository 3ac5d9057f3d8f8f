-- Pairs of hexadecimal digits.
use Rattle.std.proofs.Common.{◌≡◌, ◌≢◌, ℕ, ◌+◌, ◌*◌, ◌/◌, ◌%◌, ◌<◌, ◌≤◌, List, [], ◌∷◌, ◌++◌, length, refl, sym, ap, ◌∙◌, arith}
use Rattle.std.proofs.lemmas.Bool.Decides.{nat_tests}
use Rattle.script_text.specs.Prelude.{HasNo, hex_digit_from, hex_pair}
use Rattle.script_text.proofs.Spelled.{IsCode}

hex_digit-least : (ten d : ℕ) → 0x41 ≤ ten → 0x30 ≤ hex_digit_from ten d
hex_digit-least ten d letter = grind (arith, nat_tests)

hex_digit-no : (ten d c : ℕ) → 0x41 ≤ ten → c < 0x30 → hex_digit_from ten d ≢ c
hex_digit-no ten d c letter low is = let least = hex_digit-least ten d letter in omega arith

hex_digit-same : (ten d e : ℕ) → 0x41 ≤ ten → hex_digit_from ten d ≡ hex_digit_from ten e → d ≡ e
hex_digit-same ten d e letter is = grind (arith, nat_tests)

-- the pair of a byte, and what stands behind it
pub pair_parts : (ten b c : ℕ) (x y : List ℕ) → 0x41 ≤ ten → hex_pair ten b ++ x ≡ hex_pair ten c ++ y → (b ≡ c) × (x ≡ y)
unfolding hex_pair
pair_parts ten b c x y letter is =
    let high : hex_digit_from ten (b / 16) ≡ hex_digit_from ten (c / 16) = cc in
    let low : hex_digit_from ten (b % 16) ≡ hex_digit_from ten (c % 16) = cc in
    let highs = hex_digit-same ten (b / 16) (c / 16) letter high in
    let lows = hex_digit-same ten (b % 16) (c % 16) letter low in
    (omega arith, (cc))

pair_some : (ten b : ℕ) (x : List ℕ) → hex_pair ten b ++ x ≢ []
unfolding hex_pair
pair_some ten b x is = cc

pub pair_code : (ten : ℕ) → 0x41 ≤ ten → IsCode (hex_pair ten)
pair_code ten letter = record { parts = λ b c x y is. pair_parts ten b c x y letter is; some = pair_some ten }

pub pair_no : (ten b c : ℕ) → 0x41 ≤ ten → c < 0x30 → HasNo c (hex_pair ten b)
unfolding hex_pair
pair_no ten b c letter low = (hex_digit-no ten (b / 16) c letter low, (hex_digit-no ten (b % 16) c letter low, tt))

pub length-pair : (ten b : ℕ) → length (hex_pair ten b) ≡ 2
unfolding hex_pair
length-pair ten b = refl

-- two digits as a pair
pub pair_of_digits : (ten d e : ℕ) → d < 16 → e < 16 → hex_digit_from ten d ∷ hex_digit_from ten e ∷ [] ≡ hex_pair ten (16 * d + e)
unfolding hex_pair
pair_of_digits ten d e dl el =
    let high : (16 * d + e) / 16 ≡ d = omega arith in
    let low : (16 * d + e) % 16 ≡ e = omega arith in
    ap (λ n. hex_digit_from ten n ∷ hex_digit_from ten e ∷ []) (sym high) ∙ ap (λ n. hex_digit_from ten ((16 * d + e) / 16) ∷ hex_digit_from ten n ∷ []) (sym low)
