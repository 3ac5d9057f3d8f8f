-- CRC-32C, bit by bit: polynomial 0x1EDC6F41, which is 0x82F63B78 with its bits reversed.
use Rattle.std.specs.Prelude.{ℕ, zero, suc, ◌/◌, ◌%◌, ◌==◌, List, [], ◌∷◌, if◌then◌else◌, bit_xor}

-- one step of the division: the lowest bit goes out, and where it is 1 the polynomial is taken away
abbrev pub after_bit : ℕ → ℕ
after_bit r = if r % 2 == 1 then bit_xor (r / 2) 0x82f63b78 else r / 2

-- so many steps, one after the other
unfoldable pub after_bits : ℕ → ℕ → ℕ
after_bits zero r = r
after_bits (suc n) r = after_bits n (after_bit r)

-- the remainder after one more byte
abbrev pub after_byte : ℕ → ℕ → ℕ
after_byte r byte = after_bits 8 (bit_xor r byte)

-- the remainder after more bytes, from the remainder before them
abbrev pub remainder : ℕ → List ℕ → ℕ
remainder r [] = r
remainder r (byte ∷ bytes) = remainder (after_byte r byte) bytes

-- the remainder before any byte, and what turns all bits in the end
abbrev pub all_ones : ℕ
all_ones = 0xffffffff

-- the checksum: the remainder, begun with all ones, with all its bits turned
unfoldable pub crc32c : List ℕ → ℕ
crc32c bytes = bit_xor (remainder all_ones bytes) all_ones
