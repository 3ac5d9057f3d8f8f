-- The remainder after bytes of zeros.
use Rattle.std.specs.Prelude.{ℕ, zero, suc, List, [], ◌∷◌, length, bit_xor}
use Rattle.crc32c_csum.specs.Crc32c.{after_bits}

-- the remainder after so many bytes of zeros
unfoldable pub after_zeros : ℕ → ℕ → ℕ
after_zeros zero r = r
after_zeros (suc n) r = after_zeros n (after_bits 8 r)

-- what the bytes leave of a remainder that was zero, byte by byte from the tables
abbrev pub by_tables : List ℕ → ℕ
by_tables [] = 0
by_tables (byte ∷ []) = after_zeros 1 byte
by_tables (byte ∷ next ∷ bytes) = bit_xor (after_zeros (suc (suc (length bytes))) byte) (by_tables (next ∷ bytes))

-- eight bytes as a list
abbrev pub listed : (ℕ × ℕ × ℕ × ℕ × ℕ × ℕ × ℕ × ℕ) → List ℕ
listed b = b.0 ∷ b.1 ∷ b.2 ∷ b.3 ∷ b.4 ∷ b.5 ∷ b.6 ∷ b.7 ∷ []
