-- The record of a checkpoint's rows, and what is left of it from piece to piece.
use Rattle.std.proofs.Common.{◌≡◌, ℕ, ◌+◌, ◌/◌, ◌<◌, ◌≤◌, ◌^◌, Bool, true, false, nat_lt, min, List, [], ◌∷◌, length, Option, Some, None, IfSome, refl, sym, ap, subst, ◌∙◌, if◌then◌else◌, arith}
use Rattle.std.proofs.lemmas.Bool.{lt-ltb, le-ltb, ltb-true, ltb-false}
use Rattle.std.proofs.lemmas.List.{nil_from_length}
use Rattle.std.specs.FinMap as map
use Rattle.byte_maps.specs.ByteMap.{byte_order}
use Rattle.byte_maps.specs.Units.{units_for}
use Rattle.meta_rows.specs.declared.row_op.RowOp.{RowOp}
use Rattle.meta_rows.specs.Prelude.{Rows, rows_after, sets_of, row_sets, RowsFit, ops_bytes, rows_size}
use Rattle.meta_rows.proofs.SetLemmas.{rows_made, rows_fit, row_sets_size}
use Rattle.meta_log.specs.declared.slot.Super.{Super}
use Rattle.meta_log.specs.Prelude.{unit_count, piece_count, units_of_records, one_record, check_records, check_units, TableRecord, sealed_of, sealed_units, IsSealable, IsSuper, next_super}
use Rattle.meta_log.proofs.SealLemmas.{unit_count-some, length-record_bytes}
use Rattle.meta_store.specs.Checks.{record_left, units_left, left_then}

-- ---- the units of the record

units_of_one : (number : ℕ) (ops : List RowOp) → 0 < units_of_records number (one_record ops)
    → units_of_records number (one_record ops) ≡ unit_count number ops
units_of_one number [] some = absurd (omega (arith, some))
units_of_one number (op ∷ ops) some = omega arith

-- where the checkpoint has a record, it is that of all rows
pub units_of_rows : (number : ℕ) (rows : Rows) → 0 < check_units number rows → check_units number rows ≡ unit_count number (row_sets rows)
units_of_rows number rows some = units_of_one number (row_sets rows) some

units_there : (number : ℕ) (ops : List RowOp) → (ops ≡ [] → ⊥) → 0 < units_of_records number (one_record ops)
units_there number [] some = absurd (some refl)
units_there number (op ∷ ops) some = omega (arith, unit_count-some number (op ∷ ops))

-- which it is where there are rows
pub some_units : (number : ℕ) (rows : Rows) → (rows ≡ map.empty → ⊥) → 0 < check_units number rows
some_units number rows some =
    units_there number (row_sets rows) (λ none. some (sym (rows_made rows) ∙ ap (rows_after map.empty) none))

-- as many as the size of the rows says
pub units_by_size : (number : ℕ) (rows : Rows) → (rows ≡ map.empty → ⊥) → check_units number rows ≡ (24 + rows_size rows + 4095) / 4096
units_by_size number rows some =
    units_of_rows number rows (some_units number rows some)
    ∙ ap units_for (length-record_bytes number (row_sets rows) ∙ ap (λ n. 24 + n) (row_sets_size rows))

pub no_units : (number : ℕ) (rows : Rows) → rows ≡ map.empty → check_units number rows ≡ 0
no_units number rows none =
    let count : length (map.entries rows) ≡ 0 = sym (map.len-entries rows) ∙ ap map.len none ∙ map.len-empty byte_order (List ℕ) in
    ap (λ (es : List (List ℕ × List ℕ)). units_of_records number (one_record (sets_of es))) (nil_from_length (map.entries rows) count)

one_count : (number : ℕ) (ops : List RowOp) → length (one_record ops) ≡ min (units_of_records number (one_record ops)) 1
one_count number [] = refl
one_count number (op ∷ ops) = omega (arith, unit_count-some number (op ∷ ops))

-- one record or none
pub record_count : (number : ℕ) (rows : Rows) → length (check_records rows) ≡ min (check_units number rows) 1
record_count number rows = one_count number (row_sets rows)

fits_spelled : (number : ℕ) (ops : List RowOp) (half : ℕ) → half ≤ 65536 → units_of_records number (one_record ops) ≤ half
    → length (ops_bytes ops) < 2 ^ 32
fits_spelled number [] half most fits = omega arith
fits_spelled number (op ∷ ops) half most fits = omega (arith, most, fits, length-record_bytes number (op ∷ ops))

-- rows that fit, in a record that fits the half, have a spelling
pub rows_sealable : (s : Super) (number : ℕ) (rows : Rows) → IsSuper (next_super s number) → RowsFit rows → check_units number rows ≤ s.half
    → IsSealable number (row_sets rows)
rows_sealable s number rows limits fit fits = record {
  number_below = limits.first_below;
  body_below = fits_spelled number (row_sets rows) s.half limits.half_most fits;
  fit = rows_fit rows fit;
}

-- ---- what is left of it

abbrev of_given : ℕ → Rows → ℕ → TableRecord
of_given number rows given = record { rows = rows; number = number; given = given }

left_by : (number : ℕ) (rows : Rows) (given : ℕ) (b : Bool) → nat_lt given (piece_count (check_units number rows)) ≡ b
    → record_left number rows given ≡ (if b then Some (of_given number rows given) else None)
left_by number rows given b is = ap (λ (c : Bool). if c then Some (of_given number rows given) else None) is

pub is_left : (number : ℕ) (rows : Rows) (given : ℕ) → given < piece_count (check_units number rows)
    → record_left number rows given ≡ Some (of_given number rows given)
is_left number rows given below = left_by number rows given true (lt-ltb given (piece_count (check_units number rows)) below)

pub none_left : (number : ℕ) (rows : Rows) (given : ℕ) → piece_count (check_units number rows) ≤ given → record_left number rows given ≡ None
none_left number rows given past = left_by number rows given false (le-ltb given (piece_count (check_units number rows)) past)

-- the pieces of a checkpoint's record are those of the record of all rows
pub same_pieces : (number : ℕ) (rows : Rows) (given : ℕ) → given < piece_count (check_units number rows)
    → check_units number rows ≡ unit_count number (row_sets rows)
same_pieces number rows given left = units_of_rows number rows (omega (arith, left))

-- by whether a piece is left
then_by : (number : ℕ) (rows : Rows) (given : ℕ) (b : Bool) → nat_lt given (piece_count (check_units number rows)) ≡ b
    → left_then (record_left number rows given) ≡ record_left number rows (given + 1)
then_by number rows given true is =
    let below : given < piece_count (check_units number rows) = ltb-true given (piece_count (check_units number rows)) is in
    ap left_then (is_left number rows given below)
    ∙ ap (λ (u : ℕ). if nat_lt (given + 1) (piece_count u) then Some (of_given number rows (given + 1)) else None) (sym (same_pieces number rows given below))
then_by number rows given false is =
    let past : piece_count (check_units number rows) ≤ given = ltb-false given (piece_count (check_units number rows)) is in
    ap left_then (none_left number rows given past) ∙ sym (none_left number rows (given + 1) (omega (arith, past)))

-- what is left of it once one piece more is given
pub left_on : (number : ℕ) (rows : Rows) (given : ℕ) → left_then (record_left number rows given) ≡ record_left number rows (given + 1)
left_on number rows given = then_by number rows given (nat_lt given (piece_count (check_units number rows))) refl

-- what is left is of these rows, and has a piece left
pub record IsOfRows (rows : Rows) (r : TableRecord) : Type 0 where
  pub same : rows ≡ r.rows
  pub some : r.given < piece_count (sealed_units (sealed_of r))

of_by : (number : ℕ) (rows : Rows) (given : ℕ) (b : Bool) → nat_lt given (piece_count (check_units number rows)) ≡ b
    → IfSome (record_left number rows given) (IsOfRows rows)
of_by number rows given true is =
    let below : given < piece_count (check_units number rows) = ltb-true given (piece_count (check_units number rows)) is in
    subst (λ (o : Option TableRecord). IfSome o (IsOfRows rows)) (sym (is_left number rows given below)) (record {
      same = refl;
      some = subst (λ (u : ℕ). given < piece_count u) (same_pieces number rows given below) below;
    })
of_by number rows given false is =
    let past : piece_count (check_units number rows) ≤ given = ltb-false given (piece_count (check_units number rows)) is in
    subst (λ (o : Option TableRecord). IfSome o (IsOfRows rows)) (sym (none_left number rows given past)) tt

pub left_of_rows : (number : ℕ) (rows : Rows) (given : ℕ) → IfSome (record_left number rows given) (IsOfRows rows)
left_of_rows number rows given = of_by number rows given (nat_lt given (piece_count (check_units number rows))) refl

-- ---- how it begins

pub left_of_none : (number : ℕ) (rows : Rows) → rows ≡ map.empty → None ≡ record_left number rows 0
left_of_none number rows none = sym (none_left number rows 0 (omega (arith, no_units number rows none)))

pub left_of_some : (number : ℕ) (rows : Rows) (r : TableRecord) → (rows ≡ map.empty → ⊥) → r ≡ record { rows = rows; number = number; given = 0 }
    → Some r ≡ record_left number rows 0
left_of_some number rows r some is =
    ap Some is ∙ sym (is_left number rows 0 (omega (arith, some_units number rows some)))

left_units_by : (number : ℕ) (rows : Rows) (b : Bool) → nat_lt 0 (piece_count (check_units number rows)) ≡ b
    → units_left (record_left number rows 0) ≡ check_units number rows
left_units_by number rows true is =
    let below : 0 < piece_count (check_units number rows) = ltb-true 0 (piece_count (check_units number rows)) is in
    ap units_left (is_left number rows 0 below) ∙ sym (same_pieces number rows 0 below)
left_units_by number rows false is =
    let past : piece_count (check_units number rows) ≤ 0 = ltb-false 0 (piece_count (check_units number rows)) is in
    let none : 0 ≡ check_units number rows = omega (arith, past) in
    ap units_left (none_left number rows 0 past) ∙ none

-- it is of all units
pub left_units : (number : ℕ) (rows : Rows) → units_left (record_left number rows 0) ≡ check_units number rows
left_units number rows = left_units_by number rows (nat_lt 0 (piece_count (check_units number rows))) refl
