-- Bytes as text in hexadecimal.
use Rattle.std.specs.Prelude.{ℕ, ◌+◌, ◌/◌, ◌%◌, nat_lt, List, [], ◌∷◌, if◌then◌else◌, codes}
use Rattle.std.specs.Int.{w32, to_be_bytes}

-- a digit of sixteen, lower case
abbrev pub hex_digit : ℕ → ℕ
hex_digit n = if nat_lt n 10 then 0x30 + n else 0x57 + n

-- two digits for each byte
abbrev pub hex_text : List ℕ → List ℕ
hex_text [] = []
hex_text (b ∷ bs) = hex_digit (b / 16) ∷ hex_digit (b % 16) ∷ hex_text bs

-- two digits for each byte, or a dash where there is none
abbrev pub hex_or_dash : List ℕ → List ℕ
hex_or_dash [] = codes "-"
hex_or_dash (b ∷ bs) = hex_text (b ∷ bs)

-- a checksum: eight digits
unfoldable pub hex_sum : ℕ → List ℕ
hex_sum n = hex_text (to_be_bytes w32 n)
