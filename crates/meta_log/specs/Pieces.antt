-- The pieces of a record. It is cut from its start into pieces of at most 64 units, which are written last piece first, so that its head comes last.
use Rattle.std.specs.Prelude.{◌≡◌, ℕ, ◌+◌, ◌-◌, ◌*◌, ◌/◌, ◌<◌, ◌≤◌, min}

-- how many pieces so many units make
abbrev pub piece_count : ℕ → ℕ
piece_count units = (units + 63) / 64

-- once so many pieces were given, the units from this one on were
abbrev pub given_from : ℕ → ℕ → ℕ
given_from units given = min units (64 * (piece_count units - given))

-- the first unit of piece k, within the record; pieces are numbered in the order in which they are written
abbrev pub piece_first : ℕ → ℕ → ℕ
piece_first units k = 64 * (piece_count units - 1 - k)

-- how many units piece k has
abbrev pub piece_units : ℕ → ℕ → ℕ
piece_units units k = min 64 (units - piece_first units k)

-- how many bytes of a body, of so many, lie before a unit of its record
abbrev pub body_before : ℕ → ℕ → ℕ
body_before size unit = min size (4096 * unit - 24)

-- where piece k lies: it ends where the one before it begins, which for the first is the record's end
pub record LiesInRecord (units k : ℕ) : Type 0 where
  pub some : 0 < piece_units units k
  pub most : piece_units units k ≤ 64
  pub within : piece_first units k + piece_units units k ≤ units
  pub begins : piece_first units k ≡ given_from units (k + 1)
  pub ends : piece_first units k + piece_units units k ≡ given_from units k

-- the unit is one of piece k
pub record IsInPiece (units unit k : ℕ) : Type 0 where
  pub counted : k < piece_count units
  pub from : piece_first units k ≤ unit
  pub to : unit < piece_first units k + piece_units units k
