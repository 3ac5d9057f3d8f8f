-- The multiple of the polynomial, times any remainder, is zero.
use Rattle.std.proofs.Common.{◌≡◌, ℕ, zero, suc, ◌+◌, ◌-◌, ◌*◌, ◌^◌, ◌<◌, ◌≤◌, inl, inr, true, replicate, refl, sym, ap, ap₂, ◌∙◌, arith, eq-zero-or-pos, pow-suc, pow_pos}
use Rattle.std.specs.Prelude.{bit_xor}
use Rattle.std.specs.Int.Bits.{xor_assoc, xor_zero_l}
use Rattle.std.proofs.lemmas.Nat.{xor_comm, xor_block}
use Rattle.std.proofs.lemmas.List.{get_or-replicate}
use Rattle.crc32c_csum.specs.Prelude.{after_bits, after_zeros, multiple}
use Rattle.crc32c_csum.proofs.Linear.{after_zeros-xor}
use Rattle.crc32c_csum.proofs.TableFacts.{all_are, entry}

-- (a ^ b) ^ (c ^ d) is (a ^ c) ^ (b ^ d)
pub swap4 : (a b c d : ℕ) → bit_xor (bit_xor a b) (bit_xor c d) ≡ bit_xor (bit_xor a c) (bit_xor b d)
swap4 a b c d =
    xor_assoc a b (bit_xor c d)
    ∙ ap (bit_xor a) (sym (xor_assoc b c d) ∙ ap (λ x. bit_xor x d) (xor_comm b c) ∙ xor_assoc c b d)
    ∙ sym (xor_assoc a c (bit_xor b d))

-- the exclusive or of two that respect it respects it
both : (f g : ℕ → ℕ) (a b : ℕ) → f (bit_xor a b) ≡ bit_xor (f a) (f b) → g (bit_xor a b) ≡ bit_xor (g a) (g b)
    → bit_xor (f (bit_xor a b)) (g (bit_xor a b)) ≡ bit_xor (bit_xor (f a) (g a)) (bit_xor (f b) (g b))
both f g a b e h = ap₂ bit_xor e h ∙ swap4 (f a) (f b) (g a) (g b)

multiple-xor : (a b : ℕ) → multiple (bit_xor a b) ≡ bit_xor (multiple a) (multiple b)
unfolding multiple
multiple-xor a b =
    let m1 : ℕ → ℕ = λ r. bit_xor (after_zeros 32 r) r in
    let m2 : ℕ → ℕ = λ r. bit_xor (after_zeros 107 r) (m1 r) in
    let m3 : ℕ → ℕ = λ r. bit_xor (after_zeros 113 r) (m2 r) in
    let m4 : ℕ → ℕ = λ r. bit_xor (after_zeros 136 r) (m3 r) in
    let e1 : m1 (bit_xor a b) ≡ bit_xor (m1 a) (m1 b) = both (after_zeros 32) (λ r. r) a b (after_zeros-xor 32 a b) refl in
    let e2 : m2 (bit_xor a b) ≡ bit_xor (m2 a) (m2 b) = both (after_zeros 107) m1 a b (after_zeros-xor 107 a b) e1 in
    let e3 : m3 (bit_xor a b) ≡ bit_xor (m3 a) (m3 b) = both (after_zeros 113) m2 a b (after_zeros-xor 113 a b) e2 in
    let e4 : m4 (bit_xor a b) ≡ bit_xor (m4 a) (m4 b) = both (after_zeros 136) m3 a b (after_zeros-xor 136 a b) e3 in
    both (after_zeros 290) m4 a b (after_zeros-xor 290 a b) e4

-- of each bit, by computing
checked : all_are (λ k. multiple (2 ^ k)) 0 (replicate 32 0) ≡ true
unfolding multiple after_zeros after_bits
checked = refl

at_bit : (k : ℕ) → k < 32 → multiple (2 ^ k) ≡ 0
at_bit k lt = ap (λ j. multiple (2 ^ j)) (omega arith) ∙ sym (entry (λ k. multiple (2 ^ k)) (replicate 32 0) 0 k checked lt) ∙ get_or-replicate 32 k 0 0 lt

at_zero : multiple 0 ≡ 0
unfolding multiple after_zeros after_bits
at_zero = refl

-- of all others bit by bit, from the top
pub multiple_is_zero : (n x : ℕ) → n ≤ 32 → x < 2 ^ n → multiple x ≡ 0
multiple_is_zero zero x le lt = ap multiple (omega (arith, lt)) ∙ at_zero
multiple_is_zero (suc n) x le lt =
    elim (eq-zero-or-pos (suc x - 2 ^ n)) [
      | inl e ↦ multiple_is_zero n x (omega (arith, le)) (omega (arith, e))
      | inr more ↦ (
          let double : 2 ^ suc n ≡ 2 * 2 ^ n = omega (arith, pow-suc 2 n) in
          let rest : ℕ = x - 2 ^ n in
          let small : rest < 2 ^ n = omega (arith, lt, double, more) in
          let whole : 1 * 2 ^ n + 0 ≡ 2 ^ n = omega arith in
          let low : 0 * 2 ^ n + rest ≡ rest = omega arith in
          let sum : x ≡ 1 * 2 ^ n + rest = omega (arith, more) in
          let is : x ≡ bit_xor (2 ^ n) rest = sum ∙ ap (λ y. 1 * 2 ^ n + y) (sym (xor_zero_l rest)) ∙ sym (xor_block n 1 0 0 rest (pow_pos n) small) ∙ ap₂ bit_xor whole low in
          ap multiple is ∙ multiple-xor (2 ^ n) rest ∙ ap₂ bit_xor (at_bit n (omega (arith, le))) (multiple_is_zero n rest (omega (arith, le)) small))
    ]
