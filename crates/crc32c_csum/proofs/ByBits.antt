-- A remainder behind a page of zeros, bit by bit; and parts of a message by their checksums alone.
use Rattle.std.proofs.Common.{◌≡◌, ℕ, suc, ◌+◌, ◌*◌, ◌/◌, ◌%◌, ◌^◌, ◌<◌, true, List, ◌++◌, length, get_or, ◌≤◌, refl, sym, ap, ap₂, ◌∙◌, subst, arith, pow-suc, pow_pos, add-mul, mul_assoc, mul-lt-mul_of_pos_right}
use Rattle.std.specs.Prelude.{bit_xor}
use Rattle.std.specs.Int.Bits.{xor_assoc, xor_self, xor_zero_l, xor_zero_r}
use Rattle.std.proofs.lemmas.Nat.{xor_block}
use Rattle.crc32c_csum.specs.Prelude.{after_bits, all_ones, remainder, crc32c, after_zeros}
use Rattle.crc32c_csum.specs.declared.behind.TheConstants.{BEHIND_PAGE}
use Rattle.crc32c_csum.proofs.Linear.{after_zeros-xor, remainder-xor}
use Rattle.crc32c_csum.proofs.Folding.{xor_twice}
use Rattle.crc32c_csum.proofs.Laws.{crc32c-append}
use Rattle.crc32c_csum.proofs.TableFacts.{all_are, entry}

-- by computing
checked : all_are (λ k. after_zeros 4096 (2 ^ k)) 0 BEHIND_PAGE ≡ true
unfolding after_zeros after_bits
checked = refl

pub column_is : (i : ℕ) → i < 32 → get_or BEHIND_PAGE i 0 ≡ after_zeros 4096 (2 ^ i)
column_is i lt = entry (λ k. after_zeros 4096 (2 ^ k)) BEHIND_PAGE 0 i checked lt ∙ ap (λ k. after_zeros 4096 (2 ^ k)) (omega arith)

-- a number is its low bit and the rest, also so many places up
split_low : (i n : ℕ) → (n * 2 ^ i ≡ bit_xor (n % 2 * 2 ^ i) (n / 2 * 2 ^ (i + 1))) × (n / 2 * 2 ^ (i + 1) ≤ n * 2 ^ i)
split_low i n =
    let p : ℕ = 2 ^ i in
    let b : ℕ = n % 2 in
    let q : ℕ = n / 2 in
    let next : i + 1 ≡ suc i = omega arith in
    let double : 2 ^ (i + 1) ≡ 2 * p = ap (λ k. 2 ^ k) next ∙ omega (arith, pow-suc 2 i) in
    let halves : n ≡ q * 2 + b = omega arith in
    let bit : b < 2 = omega arith in
    let sum : n * p ≡ q * 2 ^ (i + 1) + b * p = ap (λ x. x * p) halves ∙ add-mul (q * 2) b p ∙ ap (λ x. x + b * p) (mul_assoc q 2 p ∙ ap (λ x. q * x) (sym double)) in
    let small : b * p < 2 ^ (i + 1) = omega (arith, double, mul-lt-mul_of_pos_right bit (pow_pos i)) in
    let low : 0 * 2 ^ (i + 1) + b * p ≡ b * p = omega arith in
    let high : q * 2 ^ (i + 1) + 0 ≡ q * 2 ^ (i + 1) = omega arith in
    (sum ∙ ap₂ (λ x y. x * 2 ^ (i + 1) + y) (sym (xor_zero_l q)) (sym (xor_zero_r (b * p))) ∙ sym (xor_block (i + 1) 0 q (b * p) 0 small (pow_pos (i + 1))) ∙ ap₂ bit_xor low high, omega (arith, sum))

-- one bit more
pub one_bit : (i n all next r : ℕ) → next ≡ bit_xor all (after_zeros 4096 (n % 2 * 2 ^ i)) → bit_xor all (after_zeros 4096 (n * 2 ^ i)) ≡ after_zeros 4096 r → n * 2 ^ i < 2 ^ 32
    → (bit_xor next (after_zeros 4096 (n / 2 * 2 ^ (i + 1))) ≡ after_zeros 4096 r) × (n / 2 * 2 ^ (i + 1) < 2 ^ 32)
one_bit i n all next r is before fits =
    let split = split_low i n in
    let low : ℕ = n % 2 * 2 ^ i in
    let high : ℕ = n / 2 * 2 ^ (i + 1) in (
      ap (λ x. bit_xor x (after_zeros 4096 high)) is
          ∙ xor_assoc all (after_zeros 4096 low) (after_zeros 4096 high)
          ∙ ap (bit_xor all) (sym (after_zeros-xor 4096 low high) ∙ ap (after_zeros 4096) (sym split.0))
          ∙ before,
      omega (arith, split.1, fits),
    )

zero_stays : (n : ℕ) → after_zeros n 0 ≡ 0
zero_stays n = after_zeros-xor n 0 0 ∙ xor_self (after_zeros n 0)

-- where the low bit is 0 nothing is added, and where it is 1 the column
pub no_bit : (i n all : ℕ) → n % 2 ≡ 0 → all ≡ bit_xor all (after_zeros 4096 (n % 2 * 2 ^ i))
no_bit i n all e = sym (xor_zero_r all) ∙ ap (bit_xor all) (sym (zero_stays 4096) ∙ ap (after_zeros 4096) (sym (ap (λ b. b * 2 ^ i) e ∙ omega arith)))

pub a_bit : (i n all : ℕ) → i < 32 → n % 2 ≡ 1 → bit_xor all (get_or BEHIND_PAGE i 0) ≡ bit_xor all (after_zeros 4096 (n % 2 * 2 ^ i))
a_bit i n all lt e = ap (bit_xor all) (column_is i lt ∙ ap (after_zeros 4096) (sym (ap (λ b. b * 2 ^ i) e ∙ omega arith)))

-- behind the last bit
pub all_bits : (i n all r : ℕ) → i ≡ 32 → bit_xor all (after_zeros 4096 (n * 2 ^ i)) ≡ after_zeros 4096 r → n * 2 ^ i < 2 ^ 32 → all ≡ after_zeros 4096 r
all_bits i n all r e is fits =
    let none : n * 2 ^ 32 < 2 ^ 32 = subst (λ k. n * 2 ^ k < 2 ^ 32) e fits in
    let gone : n * 2 ^ 32 ≡ 0 = omega (arith, none) in
    sym (xor_zero_r all) ∙ ap (bit_xor all) (sym (zero_stays 4096) ∙ ap (after_zeros 4096) (sym gone ∙ ap (λ k. n * 2 ^ k) (sym e))) ∙ is

-- the remainder after more bytes, from their checksum
pub part_in : (n r sum : ℕ) (bytes : List ℕ) → length bytes ≡ n → sum ≡ crc32c bytes → bit_xor (after_zeros n (bit_xor r all_ones)) (bit_xor sum all_ones) ≡ remainder r bytes
unfolding crc32c
part_in n r sum bytes long is =
    ap₂ bit_xor (ap (λ k. after_zeros k (bit_xor r all_ones)) (sym long)) (ap (λ s. bit_xor s all_ones) is ∙ xor_twice (remainder all_ones bytes) all_ones)
    ∙ sym (remainder-xor bytes (bit_xor r all_ones) all_ones)
    ∙ ap (λ x. remainder x bytes) (xor_twice r all_ones)

-- the checksum of two parts, from theirs
pub crc32c-parts : (a b : List ℕ) → crc32c (a ++ b) ≡ bit_xor (after_zeros (length b) (crc32c a)) (crc32c b)
unfolding crc32c
crc32c-parts a b =
    crc32c-append a b
    ∙ ap (λ r. bit_xor r all_ones) (sym (part_in (length b) (remainder all_ones a) (crc32c b) b refl refl))
    ∙ xor_assoc (after_zeros (length b) (crc32c a)) (bit_xor (crc32c b) all_ones) all_ones
    ∙ ap (bit_xor (after_zeros (length b) (crc32c a))) (xor_twice (crc32c b) all_ones)
