-- How many units and pieces a record has.
use Rattle.std.proofs.Common.{◌≡◌, ℕ, ◌+◌, ◌/◌, ◌^◌, ◌<◌, ◌≤◌, List, ◌++◌, length, sym, ap, ◌∙◌, length-append, arith}
use Rattle.std.specs.Int.{w32, to_le_bytes}
use Rattle.crc32c_csum.specs.Prelude.{crc32c}
use Rattle.meta_rows.specs.declared.row_op.RowOp.{RowOp}
use Rattle.std.proofs.lemmas.Grind.{flat_map-append}
use Rattle.byte_maps.specs.Units.{units_for}
use Rattle.meta_rows.specs.Prelude.{op_bytes, ops_bytes}
use Rattle.meta_log.specs.Prelude.{record_head, record_bytes, unit_count, piece_count}

-- ---- units and pieces of any record

pub length-record : (number : ℕ) (ops : List RowOp) → length (record_bytes number ops) ≡ 24 + length (ops_bytes ops)
length-record number ops = length-append (record_head number ops ++ to_le_bytes w32 (crc32c (record_head number ops ++ ops_bytes ops))) (ops_bytes ops)

-- whatever its number is it takes as many units
pub same_units : (a b : ℕ) (ops : List RowOp) → unit_count a ops ≡ unit_count b ops
same_units a b ops = ap (λ (n : ℕ). (n + 4095) / 4096) (length-record a ops ∙ sym (length-record b ops))

-- at least one
pub some_units : (number : ℕ) (ops : List RowOp) → 0 < unit_count number ops
some_units number ops = omega (arith, length-record number ops)

pub some_pieces : (number : ℕ) (ops : List RowOp) → 0 < piece_count (unit_count number ops)
some_pieces number ops = of_units (unit_count number ops) (some_units number ops)
  where
    of_units : (units : ℕ) → 0 < units → 0 < piece_count units
    of_units units some = omega (arith, some)

-- two records as one take no more
pub joined_units : (number : ℕ) (a b : List RowOp) → unit_count number (a ++ b) ≤ unit_count number a + unit_count number b
joined_units number a b = joined (length (ops_bytes a)) (length (ops_bytes b)) (length (ops_bytes (a ++ b))) (length (record_bytes number a))
    (length (record_bytes number b)) (length (record_bytes number (a ++ b)))
    (ap (λ (bytes : List ℕ). length bytes) (flat_map-append op_bytes a b) ∙ length-append (ops_bytes a) (ops_bytes b)) (length-record number a)
    (length-record number b) (length-record number (a ++ b))
  where
    joined : (m n all first last whole : ℕ) → all ≡ m + n → first ≡ 24 + m → last ≡ 24 + n → whole ≡ 24 + all → units_for whole ≤ units_for first + units_for last
    joined m n all first last whole is of_first of_last of_whole = omega (arith, is, of_first, of_last, of_whole)

pub joined_pieces : (a b : ℕ) → piece_count (a + b) ≤ piece_count a + piece_count b
joined_pieces a b = omega arith

pub more_pieces : (a b : ℕ) → a ≤ b → piece_count a ≤ piece_count b
more_pieces a b le = omega (arith, le)

-- a record that fits half of a log is short
pub short_body : (number : ℕ) (ops : List RowOp) → unit_count number ops ≤ 65536 → length (ops_bytes ops) < 2 ^ 32
short_body number ops most = omega (arith, length-record number ops, most)
