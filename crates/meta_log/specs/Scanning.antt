-- Records read back from a half of the log.
use Rattle.std.specs.Prelude.{◌≡◌, ℕ, ◌+◌, ◌*◌, ◌≤◌, ◌<◌, ◌^◌, List, [], ◌∷◌, ◌++◌, length, drop}
use Rattle.std.specs.Int.{w32, to_le_bytes}
use Rattle.byte_maps.specs.Units.{in_units, units_for}
use Rattle.crc32c_csum.specs.Prelude.{crc32c}
use Rattle.meta_rows.specs.declared.row_op.RowOp.{RowOp}
use Rattle.meta_log.specs.declared.scanning.FoundRecord.{FoundRecord}
use Rattle.meta_log.specs.declared.scanning.FoundLog.{FoundLog}
use Rattle.meta_log.specs.Records.{head_of, unit_count, BeginsWithRecord, AreRecords}

-- a record, whatever its body says: the head with this count, a checksum of head and body, and the body
abbrev pub parts_bytes : ℕ → ℕ → List ℕ → List ℕ
parts_bytes number count body =
    head_of number count (length body) ++ to_le_bytes w32 (crc32c (head_of number count (length body) ++ body)) ++ body

-- The bytes begin with such a record, in whole units, and these bytes are left behind it.
pub record BeginsWithParts (bytes : List ℕ) (number count : ℕ) (body rest : List ℕ) : Type 0 where
  pub spelled : bytes ≡ in_units (parts_bytes number count body) ++ rest
  pub count_below : count < 2 ^ 32
  pub body_below : length body < 2 ^ 32

-- such a record was found at the front, and takes so many units
pub record IsCut (bytes : List ℕ) (number count : ℕ) (body : List ℕ) (units : ℕ) : Type 0 where
  pub stands : BeginsWithParts bytes number count body (drop (4096 * units) bytes)
  pub size : units ≡ units_for (24 + length body)

-- the valid record of this number stands at the front, and takes so many units
pub record IsAtFront (bytes : List ℕ) (number : ℕ) (found : FoundRecord) : Type 0 where
  pub stands : BeginsWithRecord bytes number found.ops (drop (4096 * found.units) bytes)
  pub size : found.units ≡ unit_count number found.ops

-- whatever follows these bytes, no valid record of this number stands at their front
abbrev pub BeginsNoRecord : List ℕ → ℕ → Type 0
BeginsNoRecord bytes number = (more : List ℕ) (ops : List RowOp) (rest : List ℕ) → ¬ BeginsWithRecord (bytes ++ more) number ops rest

-- whatever follows these bytes, the valid record of this number at their front, if there is one, takes so many units
abbrev pub TakesUnits : List ℕ → ℕ → ℕ → Type 0
TakesUnits bytes number units = (more : List ℕ) (ops : List RowOp) (rest : List ℕ) → BeginsWithRecord (bytes ++ more) number ops rest
    → unit_count number ops ≡ units

-- how many units the records of consecutive numbers from this one on take
abbrev pub units_of_records : ℕ → List (List RowOp) → ℕ
units_of_records number [] = 0
units_of_records number (ops ∷ more) = unit_count number ops + units_of_records (number + 1) more

-- what stands in a half of the log whose first record has this number
pub record IsLogOf (half : List ℕ) (first : ℕ) (found : FoundLog) : Type 0 where
  pub stand : AreRecords found.records first half
  pub number : found.next_number ≡ first + length found.records
  pub unit : found.next_unit ≡ units_of_records first found.records
  pub within : 4096 * found.next_unit ≤ length half
