-- What a collection's name is made of, and that its numbers are read back.
use Rattle.std.proofs.Common.{◌≡◌, ◌≢◌, ℕ, zero, suc, ◌<◌, ◌≤◌, ◌^◌, false, true, List, [], ◌∷◌, ◌++◌, length, get_or, Option, Some, None, Result, Ok, Err, MatchOption, MatchResult, is_ok, refl, sym, ap, subst, ◌∙◌, arith}
use Rattle.std.specs.List.{AllByRecursion}
use Rattle.std.specs.Char.{digit_value}
use Rattle.std.specs.Fmt.{decimal, digits}
use Rattle.std.specs.Result.{OkIff, result_ok}
use Rattle.std.specs.Str.{IsAscii, IsUtf8}
use Rattle.std.specs.Str.Parse.{AllDigits, IsNumeral, digits_value, ParsesUnsigned}
use Rattle.std.proofs.lemmas.Bool.Decides.{nat_tests}
use Rattle.std.proofs.lemmas.Fmt.{digits_is_IsNumeral, decimal_is_IsNumeral, parse-decimal, IsAscii-decimal}
use Rattle.std.proofs.lemmas.Str.{IsAscii-append, IsUtf8-from_ascii}
use Rattle.std.proofs.lemmas.Str.Parse.{without_leading_plus_none}
use Rattle.std.proofs.lemmas.Str.Pattern.{IsSplitOnceResult, split_after}
use denote.Ref.{Bor}
use Rattle.unit_fields.specs.Prelude.{coll_name, head_suffix, IsCollName}

below_ascii : (c : ℕ) → digit_value c < 36 → c < 128
below_ascii c is = grind (arith, nat_tests)

above_zero : (c : ℕ) → digit_value c < 36 → 0 < c
above_zero c is = grind (arith, nat_tests)

-- a byte that is no digit stands nowhere among digits
not_among : (radix c : ℕ) → radix ≤ digit_value c → (ds : List ℕ) → AllDigits radix ds → (i : ℕ) → i < length ds → get_or ds i 0 ≢ c
not_among radix c no_digit [] all i below same = absurd (omega arith)
not_among radix c no_digit (d ∷ ds) all zero below same = absurd (omega (arith, all.0, ap digit_value same))
not_among radix c no_digit (d ∷ ds) all (suc i) below same = not_among radix c no_digit ds all.1 i (omega arith) same

ascii_digits : (radix : ℕ) → radix ≤ 36 → (ds : List ℕ) → AllDigits radix ds → IsAscii ds
ascii_digits radix most [] all i = omega arith
ascii_digits radix most (d ∷ ds) all zero = below_ascii d (omega (arith, all.0))
ascii_digits radix most (d ∷ ds) all (suc i) = ascii_digits radix most ds all.1 i

ascii_bytes : (bs : List ℕ) → AllByRecursion (λ b. b < 128) bs → IsAscii bs
ascii_bytes [] all i = omega arith
ascii_bytes (b ∷ bs) all zero = all.0
ascii_bytes (b ∷ bs) all (suc i) = ascii_bytes bs all.1 i

positive_digits : (radix : ℕ) → radix ≤ 36 → (ds : List ℕ) → AllDigits radix ds → AllByRecursion (λ b. 0 < b) ds
positive_digits radix most [] all = tt
positive_digits radix most (d ∷ ds) all = (above_zero d (omega (arith, all.0)), positive_digits radix most ds all.1)

positive-append : (xs ys : List ℕ) → AllByRecursion (λ b. 0 < b) xs → AllByRecursion (λ b. 0 < b) ys → AllByRecursion (λ b. 0 < b) (xs ++ ys)
positive-append [] ys all more = more
positive-append (x ∷ xs) ys all more = (all.0, positive-append xs ys all.1 more)

-- bytes that are UTF-8 are read as the text of the same bytes
module _ {E : Type 0} (Q : E → Type 0) (bs : List ℕ) where
  pub is_text : (r : Result (Bor (List ℕ)) E) → IsUtf8 bs → MatchResult r (λ s. (s.now ≡ bs) × IsUtf8 bs) (λ e. ¬ (IsUtf8 bs) × Q e) → is_ok r ≡ true
  is_text (Ok s) utf8 h = refl
  is_text (Err e) utf8 h = absurd (h.0 utf8)

  pub text_of : (r : Result (Bor (List ℕ)) E) (t : Bor (List ℕ)) → MatchResult r (λ s. (s.now ≡ bs) × IsUtf8 bs) (λ e. ¬ (IsUtf8 bs) × Q e) → Some t ≡ result_ok r → t.now ≡ bs
  text_of (Ok s) t h is = let same : t ≡ s = cc in ap (λ (b : Bor (List ℕ)). b.now) same ∙ h.0
  text_of (Err e) t h is = absurd cc

module _ (pool seed : ℕ) (pool_fits : pool < 2 ^ 64) (seed_fits : seed < 2 ^ 32) where
  pool_digits : AllDigits 10 (decimal pool)
  pool_digits = (decimal_is_IsNumeral pool pool_fits).0.1

  hex : IsNumeral 16 (digits 16 false seed) × (digits_value 16 (digits 16 false seed) ≡ seed)
  hex = digits_is_IsNumeral 16 false (omega arith) (omega arith) seed (omega arith)

  pub coll_name-utf8 : IsUtf8 (coll_name pool seed)
  coll_name-utf8 = IsUtf8-from_ascii _ (IsAscii-append (decimal pool) _ (IsAscii-decimal pool pool_fits) (IsAscii-append (0x2e ∷ []) (digits 16 false seed ++ head_suffix) (ascii_bytes (0x2e ∷ []) (omega arith, tt)) (
      IsAscii-append (digits 16 false seed) head_suffix (ascii_digits 16 (omega arith) (digits 16 false seed) hex.0.1) (ascii_bytes head_suffix (omega arith, (omega arith, (omega arith, (omega arith, (omega arith, tt)))))))))

  pub coll_name-no_zero : AllByRecursion (λ b. 0 < b) (coll_name pool seed)
  coll_name-no_zero = positive-append (decimal pool) (0x2e ∷ (digits 16 false seed ++ head_suffix)) (positive_digits 10 (omega arith) (decimal pool) pool_digits) (
    omega arith,
    positive-append (digits 16 false seed) head_suffix (positive_digits 16 (omega arith) (digits 16 false seed) hex.0.1) (omega arith, (omega arith, (omega arith, (omega arith, (omega arith, tt))))),
  )

  -- the pool stands before the first dot
  pub split_at_dot : (text : List ℕ) (r : Option (Bor (List ℕ) × Bor (List ℕ))) → text ≡ coll_name pool seed → IsSplitOnceResult 0x2e text r → MatchOption r ⊥ (λ x. (x.0.now ≡ decimal pool) × (x.1.now ≡ digits 16 false seed ++ head_suffix))
  split_at_dot text r is found = split_after 0x2e text (decimal pool) (digits 16 false seed ++ head_suffix) r found (omega arith) is (not_among 10 0x2e (omega arith) (decimal pool) pool_digits)

  -- and the seed before the low line behind it
  pub split_at_line : (rest : List ℕ) (r : Option (Bor (List ℕ) × Bor (List ℕ))) → rest ≡ digits 16 false seed ++ head_suffix → IsSplitOnceResult 0x5f rest r → MatchOption r ⊥ (λ x. x.0.now ≡ digits 16 false seed)
  split_at_line rest r is found =
      front r (split_after 0x5f rest (digits 16 false seed) (0x68 ∷ 0x65 ∷ 0x61 ∷ 0x64 ∷ []) r found (omega arith) is (not_among 16 0x5f (omega arith) (digits 16 false seed) hex.0.1))
    where
      front : (o : Option (Bor (List ℕ) × Bor (List ℕ))) → MatchOption o ⊥ (λ x. (x.0.now ≡ digits 16 false seed) × (x.1.now ≡ 0x68 ∷ 0x65 ∷ 0x61 ∷ 0x64 ∷ [])) → MatchOption o ⊥ (λ x. x.0.now ≡ digits 16 false seed)
      front None h = h
      front (Some x) h = h.0

  pub parse-pool : {E : Type 0} (text : List ℕ) (r : Result ℕ E) → text ≡ decimal pool → ParsesUnsigned 64 10 text r → r ≡ Ok pool
  parse-pool text r is h = parse-decimal 64 pool text r pool_fits pool_fits is h

  pub parse-seed : {E : Type 0} (text : List ℕ) (r : Result ℕ E) → text ≡ digits 16 false seed → ParsesUnsigned 32 16 text r → r ≡ Ok seed
  parse-seed {E} text r is h =
      by r (subst (λ (l : List ℕ). OkIff r (IsNumeral 16 l × (digits_value 16 l < 2 ^ 32)) (digits_value 16 l)) (without_leading_plus_none text (λ plus. no_plus (sym (ap (λ (l : List ℕ). get_or l 0 0) is) ∙ plus)) ∙ is) h)
    where
      no_plus : get_or (digits 16 false seed) 0 0 ≢ 43
      no_plus = not_among 16 43 (omega arith) (digits 16 false seed) hex.0.1 0 hex.0.0

      by : (q : Result ℕ E) → OkIff q (IsNumeral 16 (digits 16 false seed) × (digits_value 16 (digits 16 false seed) < 2 ^ 32)) (digits_value 16 (digits 16 false seed)) → q ≡ Ok seed
      by (Ok x) p = ap (λ (m : ℕ). Ok m) (p.1 ∙ hex.1)
      by (Err d) p = absurd (p (hex.0, subst (λ (m : ℕ). m < 2 ^ 32) (sym hex.1) seed_fits))

pub no_zero_in_coll : (name : List ℕ) → IsCollName name → AllByRecursion (λ b. 0 < b) name
no_zero_in_coll name is = subst (λ (l : List ℕ). AllByRecursion (λ b. 0 < b) l) (sym is.spelled) (coll_name-no_zero is.pool is.seed is.pool_fits is.seed_fits)
