-- What users of the checksum need beside its definition.
use Rattle.std.proofs.Common.{◌≡◌, ℕ, zero, suc, ◌/◌, ◌^◌, ◌<◌, List, [], ◌∷◌, ◌++◌, ap, arith, All, lit<, inl, inr}
use Rattle.std.specs.Prelude.{bit_xor}
use Rattle.std.proofs.lemmas.Nat.{xor_of_32}
use Rattle.crc32c_csum.specs.Prelude.{after_bit, after_bits, after_byte, all_ones, remainder, crc32c}
use Rattle.crc32c_csum.proofs.Linear.{low_bit, at_even, at_odd, remainder-append}

-- the checksum of two parts is that of the first, gone on with
pub crc32c-append : (a b : List ℕ) → crc32c (a ++ b) ≡ bit_xor (remainder (remainder all_ones a) b) all_ones
unfolding crc32c
crc32c-append a b = ap (λ r. bit_xor r all_ones) (remainder-append a b all_ones)

-- a checksum fits 32 bits
after_bit_fits : (r : ℕ) → r < 2 ^ 32 → after_bit r < 2 ^ 32
after_bit_fits r fits =
    elim (low_bit r) [
      | inl e ↦ rw (at_even r e) (omega (arith, fits))
      | inr e ↦ rw (at_odd r e) (xor_of_32 (r / 2) 0x82f63b78 (omega (arith, fits)) (lit< tt))
    ]

after_bits_fits : (n r : ℕ) → r < 2 ^ 32 → after_bits n r < 2 ^ 32
unfolding after_bits
after_bits_fits zero r fits = fits
after_bits_fits (suc n) r fits = after_bits_fits n (after_bit r) (after_bit_fits r fits)

pub remainder_fits : (bytes : List ℕ) (r : ℕ) → r < 2 ^ 32 → All (λ b. b < 256) bytes → remainder r bytes < 2 ^ 32
remainder_fits [] r fits bytes = fits
remainder_fits (byte ∷ bytes) r fits small =
    let first : byte < 256 = small 0 0 (omega arith) in
    remainder_fits bytes (after_byte r byte) (after_bits_fits 8 (bit_xor r byte) (xor_of_32 r byte fits (omega (arith, first)))) (λ k d lt. small (suc k) d (omega (arith, lt)))

pub crc32c_fits : (bytes : List ℕ) → All (λ b. b < 256) bytes → crc32c bytes < 2 ^ 32
unfolding crc32c
crc32c_fits bytes small = xor_of_32 (remainder all_ones bytes) all_ones (remainder_fits bytes all_ones (lit< tt) small) (lit< tt)
