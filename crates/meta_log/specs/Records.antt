-- Records, one behind another, and the rows that they make.
use Rattle.std.specs.Prelude.{◌≡◌, ℕ, ◌+◌, ◌^◌, ◌<◌, List, [], ◌∷◌, ◌++◌, length}
use Rattle.std.specs.Int.{w32, w64, to_le_bytes}
use Rattle.std.specs.FinMap as map
use Rattle.byte_maps.specs.Units.{in_units, units_for, units_from}
use Rattle.crc32c_csum.specs.Prelude.{crc32c}
use Rattle.meta_rows.specs.declared.row_op.RowOp.{RowOp}
use Rattle.meta_rows.specs.Prelude.{Rows, rows_of_records, ops_bytes, AllFit}
use Rattle.meta_log.specs.declared.slot.Super.{Super}
use Rattle.meta_log.specs.Slots.{active_unit}

-- "BREC", the body's length, the record's number, and the count of its operations
abbrev pub head_of : ℕ → ℕ → ℕ → List ℕ
head_of number count body = 0x42 ∷ 0x52 ∷ 0x45 ∷ 0x43 ∷ to_le_bytes w32 body ++ to_le_bytes w64 number ++ to_le_bytes w32 count

-- the head of the record of these operations
abbrev pub record_head : ℕ → List RowOp → List ℕ
record_head number ops = head_of number (length ops) (length (ops_bytes ops))

-- the head, a checksum of head and body, and the body: the operations, one after another
abbrev pub record_bytes : ℕ → List RowOp → List ℕ
record_bytes number ops = record_head number ops ++ to_le_bytes w32 (crc32c (record_head number ops ++ ops_bytes ops)) ++ ops_bytes ops

-- in whole units, the rest of the last one zeros
abbrev pub record_units : ℕ → List RowOp → List ℕ
record_units number ops = in_units (record_bytes number ops)

-- how many units that is
abbrev pub unit_count : ℕ → List RowOp → ℕ
unit_count number ops = units_for (length (record_bytes number ops))

-- The bytes begin with the valid record of this number and these operations, and these bytes are left behind it.
pub record BeginsWithRecord (bytes : List ℕ) (number : ℕ) (ops : List RowOp) (rest : List ℕ) : Type 0 where
  pub spelled : bytes ≡ record_units number ops ++ rest
  pub number_below : number < 2 ^ 62
  pub body_below : length (ops_bytes ops) < 2 ^ 32
  pub fit : AllFit ops

-- The bytes begin with valid records of consecutive numbers from this one on; there may be more behind them.
abbrev pub BeginsWithRecords : List (List RowOp) → ℕ → List ℕ → Type 0
BeginsWithRecords [] number bytes = Unit {0}
BeginsWithRecords (ops ∷ more) number bytes = (rest : List ℕ) × BeginsWithRecord bytes number ops rest × BeginsWithRecords more (number + 1) rest

-- These are all of them: what is behind the last is no valid record of the next number.
abbrev pub AreRecords : List (List RowOp) → ℕ → List ℕ → Type 0
AreRecords [] number bytes = (ops : List RowOp) (rest : List ℕ) → BeginsWithRecord bytes number ops rest → ⊥
AreRecords (ops ∷ more) number bytes = (rest : List ℕ) × BeginsWithRecord bytes number ops rest × AreRecords more (number + 1) rest

-- the half of the log that is in use
abbrev pub active_half : List ℕ → Super → List ℕ
active_half image s = units_from (active_unit s) s.half image

-- the rows that the records of the active half make, from none
pub record AreRowsOf (image : List ℕ) (s : Super) (rows : Rows) : Type 0 where
  pub records : List (List RowOp)
  pub stand : AreRecords records s.first (active_half image s)
  pub made : rows ≡ rows_of_records map.empty records
