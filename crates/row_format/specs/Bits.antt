-- The bits of the freelist's rows: one for each unit, 128 units a row, 8 a byte, the lowest bit first.
use Rattle.std.specs.Prelude.{ℕ, ◌/◌, ◌%◌, ◌^◌, List, slice_index}

-- the row that has the unit's bit
abbrev pub bit_row : ℕ → ℕ
bit_row unit = unit / 128

-- the unit's bit in the bytes of its row
abbrev pub bit_in : List ℕ → ℕ → ℕ
bit_in bytes unit = slice_index bytes (unit % 128 / 8) / 2 ^ (unit % 8) % 2

-- so many rows have the bits of all units, whose numbers are below 2 ^ 32
abbrev pub bit_rows : ℕ
bit_rows = 33554432
