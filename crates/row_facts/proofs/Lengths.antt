-- How many bytes the operation that makes a collection takes.
use Rattle.std.proofs.Common.{◌≡◌, ℕ, zero, suc, ◌+◌, ◌/◌, ◌%◌, ◌≤◌, true, false, cond, List, [], ◌∷◌, ◌++◌, length, ap, arith, length-append}
use Rattle.std.specs.Prelude.{◌==◌}
use Rattle.std.specs.Int.{w32, to_le_bytes}
use Rattle.std.specs.Fmt.{digits, digits_onto, digit_glyph}
use Rattle.crc32c_csum.specs.Prelude.{crc32c}
use Rattle.meta_rows.specs.declared.row_op.RowOp.{RowOp}
use Rattle.meta_rows.specs.declared.row_op.RowOp.TheVariants.{Set}
use Rattle.meta_rows.specs.Prelude.{key_bytes, value_bytes, op_bytes, ops_bytes, AllFit}
use Rattle.meta_log.specs.Prelude.{record_head, record_bytes, unit_count}
use Rattle.unit_fields.specs.Names as names
use Rattle.unit_fields.specs.Prelude.{IsCollName}
use Rattle.row_format.specs.Prelude.{coll_key}
use Rattle.row_facts.specs.Operations.{coll_ops}

-- ---- names of collections

length-onto : (k base n : ℕ) (acc : List ℕ) → length (digits_onto k base false n acc) ≤ k + length acc
length-onto zero base n acc = omega arith
length-onto (suc k) base n acc = elim (n / base == 0) as
    (λ b. length
    (cond b (digit_glyph false (n % base) ∷ acc) (digits_onto k base false (n / base) (digit_glyph false (n % base) ∷ acc))) ≤ suc k + length acc) [
      | true ↦ omega arith
      | false ↦ omega (arith, length-onto k base (n / base) (digit_glyph false (n % base) ∷ acc))
    ]

length-digits : (base n : ℕ) → length (digits base false n) ≤ 64
unfolding digits
length-digits base n = omega (arith, length-onto 64 base n [])

pub length-coll : (c : List ℕ) → IsCollName c → length c ≤ 134
length-coll c is = omega (
  arith,
  length-digits 10 is.pool,
  length-digits 16 is.seed,
  length-append (digits 10 false is.pool) (0x2e ∷ (digits 16 false is.seed ++ names.head_suffix)),
  length-append (digits 16 false is.seed) names.head_suffix,
  ap length is.spelled,
)

-- ---- operations

coll_bytes : (c : List ℕ) → length (op_bytes (Set (coll_key c) [])) ≡ 8 + length c
coll_bytes c = omega (arith, length-append (key_bytes (coll_key c)) (value_bytes []))

pub coll_short : (c : List ℕ) → IsCollName c → length (ops_bytes (coll_ops c)) ≤ 4072
coll_short c name = omega (arith, coll_bytes c, length-coll c name, length-append (op_bytes (Set (coll_key c) [])) [])

pub coll_fits : (c : List ℕ) → IsCollName c → AllFit (coll_ops c)
coll_fits c name = ((record { some = omega arith; short = omega (arith, length-coll c name) }, omega arith), tt)

-- ---- records

length-record : (number : ℕ) (ops : List RowOp) → length (record_bytes number ops) ≡ 24 + length (ops_bytes ops)
length-record number ops = length-append (record_head number ops ++ to_le_bytes w32 (crc32c (record_head number ops ++ ops_bytes ops))) (ops_bytes ops)

pub coll_unit : (number : ℕ) (c : List ℕ) → IsCollName c → unit_count number (coll_ops c) ≡ 1
coll_unit number c name = omega (arith, length-record number (coll_ops c), coll_short c name)

-- what the laws cite
pub ruleset length_laws = (coll_fits, coll_short, coll_unit)
