-- A record before it is written.
use Rattle.std.specs.Prelude.{◌≡◌, ℕ, ◌+◌, ◌*◌, ◌<◌, ◌≤◌, ◌^◌, List, [], ◌∷◌, ◌++◌, length}
use Rattle.byte_maps.specs.Units.{units_from}
use Rattle.meta_rows.specs.declared.row_op.RowOp.{RowOp}
use Rattle.crc32c_csum.specs.Prelude.{crc32c}
use Rattle.meta_rows.specs.declared.op_cursor.OpCursor.{OpCursor}
use Rattle.meta_rows.specs.Prelude.{ops_bytes, ops_before, AllFit}
use Rattle.meta_log.specs.declared.sealed.Cut.{Cut}
use Rattle.meta_log.specs.Records.{record_head, record_units, unit_count}
use Rattle.meta_log.specs.Pieces.{piece_count, piece_first, piece_units, body_before}

-- a record's number, and its operations
pub record Sealed : Type 0 where
  pub number : ℕ
  pub ops : List RowOp

-- what a record may be made of
pub record IsSealable (number : ℕ) (ops : List RowOp) : Type 0 where
  pub number_below : number < 2 ^ 62
  pub body_below : length (ops_bytes ops) < 2 ^ 32
  pub fit : AllFit ops

-- how many units the record takes
abbrev pub sealed_units : Sealed → ℕ
sealed_units made = unit_count made.number made.ops

-- the bytes of piece k
abbrev pub piece_bytes : Sealed → ℕ → List ℕ
piece_bytes made k = units_from (piece_first (sealed_units made) k) (piece_units (sealed_units made) k) (record_units made.number made.ops)

-- These are the places where the pieces from this one on begin among the operations, counted from the one with the head.
abbrev pub BeginAt : List RowOp → ℕ → List OpCursor → Type 0
BeginAt ops k [] = Unit {0}
BeginAt ops k (at ∷ more) =
    (at.ops ≤ length ops) × (ops_before ops at ≡ body_before (length (ops_bytes ops)) (64 * k)) × BeginAt ops (k + 1) more

-- the cut of the record of this number and these operations
pub record IsCutInto (number : ℕ) (ops : List RowOp) (c : Cut) : Type 0 where
  pub counted : length c.starts.items ≡ piece_count (unit_count number ops)
  pub begin : BeginAt ops 0 c.starts.items
  pub sum : c.sum ≡ crc32c (record_head number ops ++ ops_bytes ops)

-- the record of this number and these operations: its body has so many bytes, it has so many units, and several pieces are cut so
pub record IsSpelled (number : ℕ) (ops : List RowOp) (size units : ℕ) (c : Cut) : Type 0 where
  pub sealable : IsSealable number ops
  pub sized : size ≡ length (ops_bytes ops)
  pub counted : units ≡ unit_count number ops
  pub several : 64 < units → IsCutInto number ops c
