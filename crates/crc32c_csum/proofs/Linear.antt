-- The remainder of an exclusive-or is the exclusive-or of the remainders.
use Rattle.std.proofs.Common.{◌≡◌, ℕ, zero, suc, ◌+◌, ◌*◌, ◌/◌, ◌%◌, ◌^◌, ◌<◌, ◌⊎◌, inl, inr, eqb, cond, List, [], ◌∷◌, ◌++◌, length, refl, sym, ap, ◌∙◌, arith}
use Rattle.std.specs.Prelude.{bit_xor}
use Rattle.std.specs.Int.Bits.{xor_assoc, xor_self, xor_zero_l, xor_zero_r}
use Rattle.std.proofs.lemmas.Nat.{xor_comm, xor_shr, xor_mod, xor_block}
use Rattle.crc32c_csum.specs.Prelude.{after_bit, after_bits, after_byte, remainder, after_zeros}

pub low_bit : (n : ℕ) → (n % 2 ≡ 0) ⊎ (n % 2 ≡ 1)
low_bit n = by_cases (n % 2) refl (omega arith)
  where
    by_cases : (k : ℕ) → n % 2 ≡ k → k < 2 → (n % 2 ≡ 0) ⊎ (n % 2 ≡ 1)
    by_cases zero e lt = inl e
    by_cases (suc zero) e lt = inr e
    by_cases (suc (suc k)) e lt = absurd (omega (arith, lt))

pub at_even : (r : ℕ) → r % 2 ≡ 0 → after_bit r ≡ r / 2
at_even r e = ap (λ k. cond (eqb k 1) (bit_xor (r / 2) 0x82f63b78) (r / 2)) e

pub at_odd : (r : ℕ) → r % 2 ≡ 1 → after_bit r ≡ bit_xor (r / 2) 0x82f63b78
at_odd r e = ap (λ k. cond (eqb k 1) (bit_xor (r / 2) 0x82f63b78) (r / 2)) e

-- (x ^ y) ^ p is x ^ (y ^ p), (x ^ p) ^ y, and x ^ y where p is on both sides
pub left : (x y p : ℕ) → bit_xor (bit_xor x y) p ≡ bit_xor (bit_xor x p) y
left x y p = xor_assoc x y p ∙ ap (bit_xor x) (xor_comm y p) ∙ sym (xor_assoc x p y)

twice : (x y p : ℕ) → bit_xor (bit_xor x p) (bit_xor y p) ≡ bit_xor x y
twice x y p =
    xor_assoc x p (bit_xor y p)
    ∙ ap (bit_xor x) (ap (bit_xor p) (xor_comm y p) ∙ sym (xor_assoc p p y) ∙ ap (λ z. bit_xor z y) (xor_self p) ∙ xor_zero_l y)

after_bit-xor : (a b : ℕ) → after_bit (bit_xor a b) ≡ bit_xor (after_bit a) (after_bit b)
after_bit-xor a b =
    let half : bit_xor a b / 2 ≡ bit_xor (a / 2) (b / 2) = xor_shr a b 1 in
    let low : bit_xor a b % 2 ≡ bit_xor (a % 2) (b % 2) = xor_mod a b 1 in
    let p : ℕ = 0x82f63b78 in
    elim (low_bit a) [
      | inl e ↦ elim (low_bit b) [
        | inl f ↦ at_even (bit_xor a b) (low ∙ ap (λ k. bit_xor k (b % 2)) e ∙ ap (bit_xor 0) f) ∙ half ∙ sym (ap (λ k. bit_xor k (after_bit b)) (at_even a e) ∙ ap (bit_xor (a / 2)) (at_even b f))
        | inr f ↦ at_odd (bit_xor a b) (low ∙ ap (λ k. bit_xor k (b % 2)) e ∙ ap (bit_xor 0) f) ∙ ap (λ k. bit_xor k 0x82f63b78) half ∙ xor_assoc (a / 2) (b / 2) 0x82f63b78 ∙ sym (ap (λ k. bit_xor k (after_bit b)) (at_even a e) ∙ ap (bit_xor (a / 2)) (at_odd b f))
      ]
      | inr e ↦ elim (low_bit b) [
        | inl f ↦ at_odd (bit_xor a b) (low ∙ ap (λ k. bit_xor k (b % 2)) e ∙ ap (bit_xor 1) f) ∙ ap (λ k. bit_xor k 0x82f63b78) half ∙ left (a / 2) (b / 2) 0x82f63b78 ∙ sym (ap (λ k. bit_xor k (after_bit b)) (at_odd a e) ∙ ap (bit_xor (bit_xor (a / 2) 0x82f63b78)) (at_even b f))
        | inr f ↦ at_even (bit_xor a b) (low ∙ ap (λ k. bit_xor k (b % 2)) e ∙ ap (bit_xor 1) f) ∙ half ∙ sym (twice (a / 2) (b / 2) 0x82f63b78) ∙ sym (ap (λ k. bit_xor k (after_bit b)) (at_odd a e) ∙ ap (bit_xor (bit_xor (a / 2) 0x82f63b78)) (at_odd b f))
      ]
    ]

pub after_bits-xor : (n a b : ℕ) → after_bits n (bit_xor a b) ≡ bit_xor (after_bits n a) (after_bits n b)
unfolding after_bits
after_bits-xor zero a b = refl
after_bits-xor (suc n) a b = ap (after_bits n) (after_bit-xor a b) ∙ after_bits-xor n (after_bit a) (after_bit b)

pub after_zeros-xor : (n a b : ℕ) → after_zeros n (bit_xor a b) ≡ bit_xor (after_zeros n a) (after_zeros n b)
unfolding after_zeros
after_zeros-xor zero a b = refl
after_zeros-xor (suc n) a b = ap (after_zeros n) (after_bits-xor 8 a b) ∙ after_zeros-xor n (after_bits 8 a) (after_bits 8 b)

-- zeros at the low end only go out
halved : (m : ℕ) → after_bit (2 * m) ≡ m
halved m = let e : (2 * m) % 2 ≡ 0 = omega arith in at_even (2 * m) e ∙ omega arith

pub shifted : (q : ℕ) → after_bits 8 (256 * q) ≡ q
unfolding after_bits
shifted q =
    let f : (n m k : ℕ) → k ≡ 2 * m → after_bits (suc n) k ≡ after_bits n m = λ n m k e. ap (λ k. after_bits n (after_bit k)) e ∙ ap (after_bits n) (halved m) in
    f 7 (128 * q) (256 * q) (omega arith) ∙ f 6 (64 * q) (128 * q) (omega arith) ∙ f 5 (32 * q) (64 * q) (omega arith) ∙ f 4 (16 * q) (32 * q) (omega arith)
    ∙ f 3 (8 * q) (16 * q) (omega arith) ∙ f 2 (4 * q) (8 * q) (omega arith) ∙ f 1 (2 * q) (4 * q) (omega arith) ∙ f 0 q (2 * q) (omega arith)

-- a number is its low byte and the rest
parts : (r : ℕ) → r ≡ bit_xor (r % 256) (256 * (r / 256))
parts r =
    let b = xor_block 8 0 (r / 256) (r % 256) 0 (omega arith) (omega arith) in
    let e : r ≡ bit_xor 0 (r / 256) * 2 ^ 8 + bit_xor (r % 256) 0 = rw (xor_zero_l (r / 256), xor_zero_r (r % 256)) (omega arith) in
    let left : 0 * 2 ^ 8 + r % 256 ≡ r % 256 = omega arith in
    let right : (r / 256) * 2 ^ 8 + 0 ≡ 256 * (r / 256) = omega arith in
    e ∙ sym b ∙ ap (λ x. bit_xor x ((r / 256) * 2 ^ 8 + 0)) left ∙ ap (bit_xor (r % 256)) right

-- one byte goes out, and the rest moves down
pub one_byte : (r byte : ℕ) → after_byte r byte ≡ bit_xor (after_bits 8 (bit_xor (r % 256) byte)) (r / 256)
one_byte r byte =
    ap (λ x. after_bits 8 (bit_xor x byte)) (parts r)
    ∙ ap (after_bits 8) (left (r % 256) (256 * (r / 256)) byte)
    ∙ after_bits-xor 8 (bit_xor (r % 256) byte) (256 * (r / 256))
    ∙ ap (bit_xor (after_bits 8 (bit_xor (r % 256) byte))) (shifted (r / 256))

pub remainder-xor : (bytes : List ℕ) (a b : ℕ) → remainder (bit_xor a b) bytes ≡ bit_xor (after_zeros (length bytes) a) (remainder b bytes)
unfolding after_zeros
remainder-xor [] a b = refl
remainder-xor (byte ∷ bytes) a b =
    ap (λ x. remainder (after_bits 8 x) bytes) (xor_assoc a b byte)
    ∙ ap (λ x. remainder x bytes) (after_bits-xor 8 a (bit_xor b byte))
    ∙ remainder-xor bytes (after_bits 8 a) (after_byte b byte)

-- What the first byte of many adds, and what the rest of them make.
pub first_of : (r byte : ℕ) (bytes : List ℕ) → remainder r (byte ∷ bytes) ≡ bit_xor (after_zeros (suc (length bytes)) (bit_xor (r % 256) byte)) (remainder (r / 256) bytes)
unfolding after_zeros
first_of r byte bytes = ap (λ x. remainder x bytes) (one_byte r byte) ∙ remainder-xor bytes (after_bits 8 (bit_xor (r % 256) byte)) (r / 256)

pub remainder-append : (a b : List ℕ) (r : ℕ) → remainder r (a ++ b) ≡ remainder (remainder r a) b
remainder-append [] b r = refl
remainder-append (x ∷ a) b r = remainder-append a b (after_byte r x)

pub one_more : (r byte : ℕ) → bit_xor (after_zeros 1 (bit_xor (r % 256) byte)) (r / 256) ≡ remainder r (byte ∷ [])
unfolding after_zeros
one_more r byte = sym (one_byte r byte)
