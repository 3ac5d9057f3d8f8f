-- One bit of a list of words.
use Rattle.std.proofs.Common.{◌≡◌, ◌≢◌, ℕ, ◌+◌, ◌-◌, ◌*◌, ◌/◌, ◌%◌, ◌<◌, ◌≤◌, ◌^◌, ◌==◌, Bool, true, false, List, length, replicate, get_or, set, w64, sym, ap, ◌∙◌, arith, ◌⊎◌, inl, inr}
use Rattle.std.specs.Int.{bit_at, trailing_zeros}
use Rattle.std.specs.Prelude.{bit_and, bit_or}
use Rattle.std.specs.Prelude.{nat_lt}
use Rattle.std.proofs.lemmas.List.{get_or-set_same, get_or-set_other, get_or_past, get_or-replicate, length-replicate, length-set}
use Rattle.std.proofs.lemmas.Bool.{cases_eq, cases_lt}
use Rattle.std.proofs.lemmas.Bool.Decides.{nat_tests}
use Rattle.std.proofs.Math.Nat.{div-div-eq-div-mul, div-le_self}
use Rattle.std.proofs.lemmas.Nat.{pow-add}
use Rattle.std.proofs.Math.Pow.{pow-lt}
use Rattle.std.proofs.lemmas.Nat.Bits.{bit_at-zero, bit_at_ones, bit_at_ones_above, bit_at_above, bit_at_set_same, bit_at_set_other, bit_at_clear_same, bit_at_clear_other, bit_at-trailing_zeros}
use Rattle.std.specs.Prelude.{Option, Some, None, MatchOption}
use Rattle.unit_allocator.specs.Prelude.{bit, HasNoBitBetween, HasNoBitFrom, IsFirstBitFrom}

same_place : (q i : ℕ) → (q ≡ i) ⊎ (q ≢ i)
same_place q i = cases_eq q i

here : (ws : List ℕ) (i w : ℕ) (b : Bool) → i < 64 * length ws → (bit_at w (i % 64) == 1) ≡ b → bit (set ws (i / 64) w) i ≡ b
here ws i w b lt is =
    let within : i / 64 < length ws = omega arith in
    ap (λ n. bit_at n (i % 64) == 1) (get_or-set_same ws (i / 64) w 0 within) ∙ is

there : (ws : List ℕ) (i w q : ℕ) → i < 64 * length ws → ((k : ℕ) → k < 64 → k ≢ i % 64 → bit_at w k ≡ bit_at (get_or ws (i / 64) 0) k) → q ≢ i
    → bit (set ws (i / 64) w) q ≡ bit ws q
there ws i w q lt same apart = elim (same_place (q / 64) (i / 64)) [
  | inl e ↦
      let within : i / 64 < length ws = omega arith in
      let other : q % 64 ≢ i % 64 = λ d. apart (omega (arith, e, d)) in
      let below : q % 64 < 64 = omega arith in
      ap (λ j. bit_at (get_or (set ws (i / 64) w) j 0) (q % 64) == 1) e
      ∙ ap (λ n. bit_at n (q % 64) == 1) (get_or-set_same ws (i / 64) w 0 within)
      ∙ ap (λ n. n == 1) (same (q % 64) below other)
      ∙ ap (λ j. bit_at (get_or ws j 0) (q % 64) == 1) (sym e)
  | inr e ↦ ap (λ n. bit_at n (q % 64) == 1) (get_or-set_other ws (i / 64) (q / 64) w 0 e)
]

below64 : (i : ℕ) → i % 64 < 64
below64 i = omega arith

pub set_here : (ws : List ℕ) (i : ℕ) → i < 64 * length ws
    → bit (set ws (i / 64) (bit_or (get_or ws (i / 64) 0) (1 * 2 ^ (i % 64) % 18446744073709551616))) i ≡ true
set_here ws i lt = here ws i _ true lt (ap (λ n. n == 1) (bit_at_set_same w64 (get_or ws (i / 64) 0) (i % 64) (below64 i)))

pub set_there : (ws : List ℕ) (i : ℕ) → i < 64 * length ws → (q : ℕ) → q ≢ i
    → bit (set ws (i / 64) (bit_or (get_or ws (i / 64) 0) (1 * 2 ^ (i % 64) % 18446744073709551616))) q ≡ bit ws q
set_there ws i lt q apart = there ws i _ q lt (λ k within other. bit_at_set_other w64 (get_or ws (i / 64) 0) (i % 64) (below64 i) k other) apart

pub clear_here : (ws : List ℕ) (i : ℕ) → i < 64 * length ws
    → bit (set ws (i / 64) (bit_and (get_or ws (i / 64) 0) (18446744073709551615 - 1 * 2 ^ (i % 64) % 18446744073709551616))) i ≡ false
clear_here ws i lt = here ws i _ false lt (ap (λ n. n == 1) (bit_at_clear_same w64 (get_or ws (i / 64) 0) (i % 64) (below64 i)))

pub clear_there : (ws : List ℕ) (i : ℕ) → i < 64 * length ws → (q : ℕ) → q ≢ i
    → bit (set ws (i / 64) (bit_and (get_or ws (i / 64) 0) (18446744073709551615 - 1 * 2 ^ (i % 64) % 18446744073709551616))) q ≡ bit ws q
clear_there ws i lt q apart = there ws i _ q lt (λ k within other. bit_at_clear_other w64 (get_or ws (i / 64) 0) (i % 64) (below64 i) k within other) apart

pub none_past : (ws : List ℕ) (q : ℕ) → 64 * length ws ≤ q → bit ws q ≡ false
none_past ws q le =
    let past : length ws ≤ q / 64 = omega arith in
    ap (λ n. bit_at n (q % 64) == 1) (get_or_past ws (q / 64) 0 past) ∙ ap (λ n. n == 1) (bit_at-zero (q % 64))

pub record IsNext (ws : List ℕ) (w u : ℕ) : Type 0 where
  pub within : u < 64 * (w + 1)
  pub from : 64 * w ≤ u
  pub one : bit ws u ≡ true
  pub none : (q : ℕ) → 64 * w ≤ q → q < u → bit ws q ≡ false

pub first_in : (ws : List ℕ) (w t : ℕ) → 0 < get_or ws w 0 → get_or ws w 0 < 2 ^ 64 → t ≡ trailing_zeros w64 (get_or ws w 0) → IsNext ws w (64 * w + t)
first_in ws w t some fits is =
    let lowest = bit_at-trailing_zeros w64 (get_or ws w 0) some fits in
    let lt : t < 64 = omega (arith, lowest.0, is) in
    let at : (64 * w + t) / 64 ≡ w = omega arith in
    let rest : (64 * w + t) % 64 ≡ t = omega arith in
    record {
      within = omega arith;
      from = omega arith;
      one = ap (λ j. bit_at (get_or ws j 0) ((64 * w + t) % 64) == 1) at ∙ ap (λ k. bit_at (get_or ws w 0) k == 1) (rest ∙ is) ∙ ap (λ n. n == 1) lowest.1;
      none = λ q le below.
          let at_q : q / 64 ≡ w = omega arith in
          let before : q % 64 < trailing_zeros w64 (get_or ws w 0) = omega (arith, is) in
          ap (λ j. bit_at (get_or ws j 0) (q % 64) == 1) at_q ∙ ap (λ n. n == 1) (lowest.2 (q % 64) before);
    }

-- none up to a middle, and none from there on
pub joined : (ws : List ℕ) (u from middle : ℕ) → HasNoBitBetween ws from middle → HasNoBitBetween ws middle u → HasNoBitBetween ws from u
joined ws u from middle low high q le lt = elim (cases_lt q middle) [ inl e ↦ low q le e | inr e ↦ high q e lt ]

-- a bit that is set is one of the words
bit_within : (ws : List ℕ) (at : ℕ) → bit ws at ≡ true → at < 64 * length ws
bit_within ws at is = elim (cases_lt at (64 * length ws)) [ inl lt ↦ lt | inr le ↦ absurd (clash (sym (none_past ws at le) ∙ is)) ]
  where
    clash : false ≡ true → ⊥
    clash e = cc

-- the bits of a word without its lowest ones
bit_behind : (n k j : ℕ) → bit_at (n / 2 ^ k) j ≡ bit_at n (k + j)
bit_behind n k j = ap (λ m. m % 2) (div-div-eq-div-mul n (2 ^ k) (2 ^ j) ∙ ap (λ m. n / m) (sym (power_sum k j)))
  where
    power_sum : (a b : ℕ) → 2 ^ (a + b) ≡ 2 ^ a * 2 ^ b
    power_sum a b = pow-add 2 a b

-- the bits from a number on, as far as its word goes, are those of the rest of the word
bit_of_rest : (ws : List ℕ) (from t : ℕ) → from % 64 + t < 64 → bit ws (from + t) ≡ (bit_at (get_or ws (from / 64) 0 / 2 ^ (from % 64)) t == 1)
bit_of_rest ws from t lt =
    let word : (from + t) / 64 ≡ from / 64 = omega (arith, lt) in
    let place : (from + t) % 64 ≡ from % 64 + t = omega (arith, lt) in
    ap (λ j. bit_at (get_or ws j 0) ((from + t) % 64) == 1) word
    ∙ ap (λ k. bit_at (get_or ws (from / 64) 0) k == 1) place
    ∙ ap (λ n. n == 1) (sym (bit_behind (get_or ws (from / 64) 0) (from % 64) t))

-- the rest of the word is zero
pub rest_is_zero : (ws : List ℕ) (from : ℕ) → get_or ws (from / 64) 0 / 2 ^ (from % 64) ≡ 0 → HasNoBitBetween ws from (64 * (from / 64 + 1))
rest_is_zero ws from zero_rest = λ q le lt.
    let back : from + (q - from) ≡ q = omega (arith, le) in
    let place : from % 64 + (q - from) < 64 = omega (arith, le, lt) in
    ap (bit ws) (sym back) ∙ bit_of_rest ws from (q - from) place
    ∙ ap (λ n. bit_at n (q - from) == 1) zero_rest ∙ ap (λ n. n == 1) (bit_at-zero (q - from))

-- the lowest bit of the rest of the word
pub lowest_of_rest : (ws : List ℕ) (from t : ℕ) → get_or ws (from / 64) 0 < 2 ^ 64 → 0 < get_or ws (from / 64) 0 / 2 ^ (from % 64)
    → t ≡ trailing_zeros w64 (get_or ws (from / 64) 0 / 2 ^ (from % 64)) → IsFirstBitFrom ws from (from + t)
lowest_of_rest ws from t fits some is =
    let word : ℕ = get_or ws (from / 64) 0 in
    let rest : ℕ = word / 2 ^ (from % 64) in
    let lowest = bit_at-trailing_zeros w64 rest some (below word (2 ^ (from % 64)) fits) in
    let one : bit_at rest t ≡ 1 = ap (bit_at rest) is ∙ lowest.1 in
    let place : from % 64 + t < 64 = elim (cases_lt (from % 64 + t) 64) [
      | inl lt ↦ lt
      | inr ge ↦
          let none : bit_at rest t ≡ 0 = bit_behind word (from % 64) t ∙ bit_at_above word 64 (from % 64 + t) fits ge in
          absurd (omega (arith, one, none))
    ] in
    let set_there : bit ws (from + t) ≡ true = bit_of_rest ws from t place ∙ ap (λ n. n == 1) one in
    record {
      not_before = omega arith;
      within = bit_within ws (from + t) set_there;
      is_set = set_there;
      none_between = λ q le lt.
          let back : from + (q - from) ≡ q = omega (arith, le) in
          let before : q - from < trailing_zeros w64 rest = omega (arith, le, lt, is) in
          let near : from % 64 + (q - from) < 64 = omega (arith, le, lt, place) in
          ap (bit ws) (sym back) ∙ bit_of_rest ws from (q - from) near ∙ ap (λ n. n == 1) (lowest.2 (q - from) before);
    }
  where
    below : (n k : ℕ) → n < 2 ^ 64 → n / k < 2 ^ 64
    below n k lt = let le : n / k ≤ n = div-le_self n k in omega (arith, le, lt)

-- the other words stay
pub other_words : (ws : List ℕ) (i w : ℕ) (q : ℕ) → q ≢ i → get_or (set ws i w) q 0 ≡ get_or ws q 0
other_words ws i w q apart = get_or-set_other ws i q w 0 apart

-- words of which all bits are set, enough for a number
abbrev ones : ℕ → List ℕ
ones n = replicate (n / 64 + 1) (2 ^ 64 - 1)

-- how many words they are
ones_len : (n : ℕ) → length (ones n) ≡ n / 64 + 1
ones_len n = length-replicate {A = ℕ} (n / 64 + 1) (2 ^ 64 - 1)

-- the test of order, where it holds and where it does not
lt_is : (i n : ℕ) → i < n → nat_lt i n ≡ true
lt_is i n lt = grind (arith, nat_tests)

lt_is_not : (i n : ℕ) → n ≤ i → nat_lt i n ≡ false
lt_is_not i n le = grind (arith, nat_tests)

-- a bit of words of which the word is known
bit_by_word : (ws : List ℕ) (i w : ℕ) → get_or ws (i / 64) 0 ≡ w → bit ws i ≡ (bit_at w (i % 64) == 1)
bit_by_word ws i w e = ap (λ m. bit_at m (i % 64) == 1) e

-- the words before the last one
ones_before : (n last i : ℕ) → i / 64 < n / 64 → bit (set (ones n) (n / 64) last) i ≡ nat_lt i n
ones_before n last i lt =
    let apart : i / 64 ≢ n / 64 = λ e. absurd (omega (arith, lt, e)) in
    let near : i / 64 < n / 64 + 1 = omega (arith, lt) in
    let inside : i < n = omega (arith, lt) in
    bit_by_word (set (ones n) (n / 64) last) i (2 ^ 64 - 1)
    (get_or-set_other (ones n) (n / 64) (i / 64) last 0 apart ∙ get_or-replicate (n / 64 + 1) (i / 64) (2 ^ 64 - 1) 0 near)
    ∙ ap (λ k. k == 1) (bit_at_ones 64 (i % 64) (below64 i)) ∙ sym (lt_is i n inside)

-- the last word
ones_last : (n last i : ℕ) → last ≡ 2 ^ (n % 64) - 1 → i / 64 ≡ n / 64 → bit (set (ones n) (n / 64) last) i ≡ nat_lt i n
ones_last n last i is e =
    let near : n / 64 < length (ones n) = omega (arith, ones_len n) in
    bit_by_word (set (ones n) (n / 64) last) i (2 ^ (n % 64) - 1)
    (ap (λ j. get_or (set (ones n) (n / 64) last) j 0) e ∙ get_or-set_same (ones n) (n / 64) last 0 near ∙ is)
    ∙ elim (cases_lt (i % 64) (n % 64)) [
      | inl lt ↦
          let inside : i < n = omega (arith, e, lt) in
          ap (λ k. k == 1) (bit_at_ones (n % 64) (i % 64) lt) ∙ sym (lt_is i n inside)
      | inr le ↦
          let outside : n ≤ i = omega (arith, e, le) in
          ap (λ k. k == 1) (bit_at_ones_above (n % 64) (i % 64) le) ∙ sym (lt_is_not i n outside)
    ]

-- behind the words
ones_behind : (n last i : ℕ) → n / 64 < i / 64 → bit (set (ones n) (n / 64) last) i ≡ nat_lt i n
ones_behind n last i gt =
    let past : length (set (ones n) (n / 64) last) ≤ i / 64 = omega (arith, length-set (ones n) (n / 64) last, ones_len n, gt) in
    let outside : n ≤ i = omega (arith, gt) in
    bit_by_word (set (ones n) (n / 64) last) i 0 (get_or_past (set (ones n) (n / 64) last) (i / 64) 0 past)
    ∙ ap (λ k. k == 1) (bit_at-zero (i % 64)) ∙ sym (lt_is_not i n outside)

-- a power of a word's place, computed in a word
power_in_word : (m : ℕ) → m < 2 ^ 64 → 1 * m % 18446744073709551616 - 1 ≡ m - 1
power_in_word m lt = omega (arith, lt)

-- words whose bits below a number are set, and no others
pub low_bits_are : (n : ℕ) (ws : List ℕ) → ws ≡ set (replicate (n / 64 + 1) (2 ^ 64 - 1)) (n / 64) (1 * 2 ^ (n % 64) % 18446744073709551616 - 1)
    → (i : ℕ) → bit ws i ≡ nat_lt i n
low_bits_are n ws is i =
    let last : ℕ = 1 * 2 ^ (n % 64) % 18446744073709551616 - 1 in
    ap (λ xs. bit xs i) is ∙ elim (cases_lt (i / 64) (n / 64)) [
      | inl lt ↦ ones_before n last i lt
      | inr ge ↦ elim (cases_eq (i / 64) (n / 64)) [
        | inl e ↦ ones_last n last i (power_in_word (2 ^ (n % 64)) (pow-lt (below64 n))) e
        | inr apart ↦ ones_behind n last i (omega (arith, ge, apart))
      ]
    ]

-- what is found behind a number's word, where there is none in it
pub after_word : (ws : List ℕ) (from : ℕ) (r : Option ℕ) → HasNoBitBetween ws from (64 * (from / 64 + 1))
    → MatchOption r (HasNoBitFrom ws (64 * (from / 64 + 1))) (IsFirstBitFrom ws (64 * (from / 64 + 1)))
    → MatchOption r (HasNoBitFrom ws from) (IsFirstBitFrom ws from)
after_word ws from None none rest = λ q le. elim (cases_lt q (64 * (from / 64 + 1))) [ inl lt ↦ none q le lt | inr ge ↦ rest q ge ]
after_word ws from (Some at) none rest = record {
  not_before = omega (arith, rest.not_before);
  within = rest.within;
  is_set = rest.is_set;
  none_between = joined ws at from (64 * (from / 64 + 1)) none rest.none_between;
}
