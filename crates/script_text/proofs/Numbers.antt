-- Numbers as they are spelled: each is read, and nothing else.
use Rattle.std.proofs.Common.{◌≡◌, ◌≢◌, inl, inr, ℕ, zero, suc, ◌<◌, ◌≤◌, ◌^◌, List, [], ◌∷◌, length, get_or, Option, Some, None, Result, Ok, Err, MatchOption}
use Rattle.std.proofs.Common.{IfSome, MatchResult, is_ok, true, refl, sym, ap, subst, ◌∙◌, arith}
use Rattle.std.specs.Fmt.{decimal}
use Rattle.std.specs.Char.{digit_value}
use Rattle.std.specs.Result.{OkIff, result_ok}
use Rattle.std.specs.Str.{IsUtf8}
use Rattle.std.specs.Str.Parse.{AllDigits, digits_value, ParsesUnsigned}
use Rattle.std.proofs.lemmas.Fmt.{decimal_digit, first_decimal, decimal_is_IsNumeral, decimal-digits_value, decimal_injective, parse-decimal, IsAscii-decimal}
use Rattle.std.proofs.lemmas.Str.{IsUtf8-from_ascii}
use Rattle.std.proofs.lemmas.Str.Parse.{IsNumeralModel, numerals_by_value, tells_digits, parse_plain}
use denote.Ref.{Bor}
use Rattle.script_text.specs.Prelude.{HasNo, IsNumber, IsPlainNumber}

own : IsNumeralModel (AllDigits 10) (digits_value 10)
own = numerals_by_value (AllDigits 10) tells_digits

pub no_space_digits : (radix : ℕ) → radix ≤ 36 → (ds : List ℕ) → AllDigits radix ds → HasNo 0x20 ds
no_space_digits radix most [] all = tt
no_space_digits radix most (d ∷ ds) all = ((λ is. absurd (omega (arith, all.0, ap digit_value is))), no_space_digits radix most ds all.1)

pub number_no_space : (word : List ℕ) (n : ℕ) → IsNumber word n → HasNo 0x20 word
number_no_space word n is = subst (λ (l : List ℕ). HasNo 0x20 l) (sym is.1) (no_space_digits 10 (omega arith) (decimal n) (decimal_is_IsNumeral n is.0).0.1)

pub same_number : (word : List ℕ) (n m : ℕ) → IsNumber word n → IsNumber word m → n ≡ m
same_number word n m is also = decimal_injective n m is.0 also.0 (sym is.1 ∙ also.1)

first_digit : (ds : List ℕ) → AllDigits 10 ds → 0 < length ds → get_or ds 0 0 ≤ 0x39
first_digit [] all some = omega arith
first_digit (d ∷ ds) all some = omega (arith, (tells_digits.parts d ds all).0)

decimal_plain : (n : ℕ) → n < 2 ^ 64 → IsPlainNumber (decimal n)
decimal_plain zero fits = inl (decimal_digit 0 (omega arith))
decimal_plain (suc n) fits =
    let is = decimal_is_IsNumeral (suc n) fits in
    inr (first_decimal (suc n) (omega arith) fits, first_digit (decimal (suc n)) is.0.1 is.0.0)

pub plain_number : (word : List ℕ) (n : ℕ) → IsNumber word n → IsPlainNumber word
plain_number word n is = subst IsPlainNumber (sym is.1) (decimal_plain n is.0)

pub number_utf8 : (word : List ℕ) (n : ℕ) → IsNumber word n → IsUtf8 word
number_utf8 word n is = subst IsUtf8 (sym is.1) (IsUtf8-from_ascii (decimal n) (IsAscii-decimal n is.0))

-- what a text is parsed as, where it spells a number
pub number_parsed : {E : Type 0} (word : List ℕ) (n : ℕ) (r : Result ℕ E) → IsNumber word n → ParsesUnsigned 64 10 word r → result_ok r ≡ Some n
number_parsed word n r is parses = ap (λ q. result_ok q) (parse-decimal 64 n word r is.0 is.0 is.1 parses)

no_plus : (word : List ℕ) → IsPlainNumber word → get_or word 0 0 ≢ 43
no_plus word (inl is) same = absurd (omega (arith, ap (λ (l : List ℕ). get_or l 0 0) is))
no_plus word (inr digit) same = absurd (omega (arith, digit))

no_leading_zero : (word : List ℕ) → IsPlainNumber word → get_or word 0 0 ≡ 48 → length word ≡ 1
no_leading_zero word (inl is) zero_first = ap (λ (l : List ℕ). length l) is
no_leading_zero word (inr digit) zero_first = absurd (omega (arith, digit))

-- what is read of a plain text is the number that prints it
pub parsed_number : {E : Type 0} (word : List ℕ) (r : Result ℕ E) → IsPlainNumber word → ParsesUnsigned 64 10 word r → IfSome (result_ok r) (IsNumber word)
parsed_number {E} word r plain parses = by r (parse_plain own 64 word r parses (no_plus word plain))
  where
    by : (q : Result ℕ E) → OkIff q (AllDigits 10 word × (0 < length word) × (digits_value 10 word < 2 ^ 64)) (digits_value 10 word)
        → IfSome (result_ok q) (IsNumber word)
    by (Ok x) p = (
      omega (arith, p.0.2, p.1),
      sym (decimal-digits_value own word p.0.0 p.0.1 (no_leading_zero word plain) (omega (arith, p.0.2))) ∙ ap (λ (n : ℕ). decimal n) (sym p.1),
    )
    by (Err e) p = tt

-- what is read of a plain text, where it is a number, and only there
pub number_read : {E : Type 0} (word : List ℕ) (r : Result ℕ E) (o : Option ℕ) → o ≡ result_ok r → IsPlainNumber word → ParsesUnsigned 64 10 word r
    → MatchOption o ((n : ℕ) → ¬ (IsNumber word n)) (IsNumber word)
number_read word r None is plain parses = λ n number. let never : None ≡ Some n = is ∙ number_parsed word n r number parses in cc
number_read word r (Some x) is plain parses = subst (λ (q : Option ℕ). IfSome q (IsNumber word)) (sym is) (parsed_number word r plain parses)

-- bytes that are UTF-8 are read as the text of the same bytes
module _ {E : Type 0} (Q : E → Type 0) (bs : List ℕ) where
  pub is_text : (r : Result (Bor (List ℕ)) E) → IsUtf8 bs → MatchResult r (λ s. (s.now ≡ bs) × IsUtf8 bs) (λ e. ¬ (IsUtf8 bs) × Q e) → is_ok r ≡ true
  is_text (Ok s) utf8 h = refl
  is_text (Err e) utf8 h = absurd (h.0 utf8)

  pub text_of : (r : Result (Bor (List ℕ)) E) (t : Bor (List ℕ)) → MatchResult r (λ s. (s.now ≡ bs) × IsUtf8 bs) (λ e. ¬ (IsUtf8 bs) × Q e)
      → Some t ≡ result_ok r → t.now ≡ bs
  text_of (Ok s) t h is = let same : t ≡ s = cc in ap (λ (b : Bor (List ℕ)). b.now) same ∙ h.0
  text_of (Err e) t h is = absurd cc
