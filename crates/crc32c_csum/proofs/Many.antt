-- Several bytes at once.
use Rattle.std.proofs.Common.{◌≡◌, ℕ, suc, ◌/◌, ◌%◌, ◌^◌, ◌<◌, List, [], ◌∷◌, length, refl, sym, ap, ◌∙◌, arith}
use Rattle.std.specs.Prelude.{bit_xor}
use Rattle.std.specs.Int.Bits.{xor_zero_l, xor_zero_r}
use Rattle.crc32c_csum.specs.Prelude.{remainder, after_zeros, by_tables}
use Rattle.crc32c_csum.proofs.Linear.{first_of}

none_left : (byte : ℕ) (bytes : List ℕ) → remainder 0 (byte ∷ bytes) ≡ bit_xor (after_zeros (suc (length bytes)) byte) (remainder 0 bytes)
none_left byte bytes = first_of 0 byte bytes ∙ ap (λ x. bit_xor (after_zeros (suc (length bytes)) x) (remainder 0 bytes)) (xor_zero_l byte)

by_tables_is : (bytes : List ℕ) → remainder 0 bytes ≡ by_tables bytes
by_tables_is [] = refl
by_tables_is (byte ∷ []) = none_left byte [] ∙ xor_zero_r (after_zeros 1 byte)
by_tables_is (byte ∷ next ∷ bytes) =
    none_left byte (next ∷ bytes) ∙ ap (bit_xor (after_zeros (suc (suc (length bytes))) byte)) (by_tables_is (next ∷ bytes))

-- one more byte of the remainder is used up
one : (n r s byte x : ℕ) (bytes : List ℕ) → length bytes ≡ n → s ≡ r / 256 → remainder s bytes ≡ x
    → remainder r (byte ∷ bytes) ≡ bit_xor (after_zeros (suc n) (bit_xor (r % 256) byte)) x
one n r s byte x bytes many is rest =
    first_of r byte bytes
    ∙ ap (λ k. bit_xor (after_zeros (suc (length bytes)) (bit_xor (r % 256) byte)) (remainder k bytes)) (sym is)
    ∙ ap (bit_xor (after_zeros (suc (length bytes)) (bit_xor (r % 256) byte))) rest
    ∙ ap (λ k. bit_xor (after_zeros (suc k) (bit_xor (r % 256) byte)) x) many

-- four bytes use up a remainder of four bytes, and the others stand for themselves
pub four_and_more : (n r r1 r2 r3 b0 b1 b2 b3 : ℕ) (bytes : List ℕ) → length bytes ≡ n → r < 2 ^ 32 → r1 ≡ r / 256 → r2 ≡ r1 / 256 → r3 ≡ r2 / 256
    → bit_xor (after_zeros (suc (suc (suc (suc n)))) (bit_xor (r % 256) b0)) (bit_xor (after_zeros (suc (suc (suc n))) (bit_xor (r1 % 256) b1))
    (bit_xor (after_zeros (suc (suc n)) (bit_xor (r2 % 256) b2)) (bit_xor (after_zeros (suc n) (bit_xor r3 b3)) (by_tables bytes))))
    ≡ remainder r (b0 ∷ b1 ∷ b2 ∷ b3 ∷ bytes)
four_and_more n r r1 r2 r3 b0 b1 b2 b3 bytes many below e1 e2 e3 =
    let low : r3 % 256 ≡ r3 = omega (arith, below, e1, e2, e3) in
    let out : 0 ≡ r3 / 256 = omega (arith, below, e1, e2, e3) in
    let last = one n r3 0 b3 _ bytes many out (by_tables_is bytes) ∙ ap (λ x. bit_xor (after_zeros (suc n) (bit_xor x b3)) (by_tables bytes)) low in
    let third = one (suc n) r2 r3 b2 _ (b3 ∷ bytes) (ap suc many) e3 last in
    let second = one (suc (suc n)) r1 r2 b1 _ (b2 ∷ b3 ∷ bytes) (ap (λ k. suc (suc k)) many) e2 third in
    sym (one (suc (suc (suc n))) r r1 b0 _ (b1 ∷ b2 ∷ b3 ∷ bytes) (ap (λ k. suc (suc (suc k))) many) e1 second)
