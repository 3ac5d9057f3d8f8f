-- Rows after operations: what a row is then, and how many bytes the rows have.
use Rattle.std.proofs.Common.{◌≡◌, ◌≢◌, ℕ, ◌+◌, ◌<◌, ◌≤◌, true, false, cond, T, List, [], ◌∷◌, length, get_or, drop, Option, Some, None, refl}
use Rattle.std.proofs.Common.{sym, ap, ◌∙◌, arith}
use Rattle.std.specs.Prelude.{unwrap_or}
use Rattle.std.specs.Ordering.{is_eq, eq_by_cmp, ordering_reverse}
use Rattle.std.specs.declared.cmp.Ordering.{Ordering}
use Rattle.std.specs.declared.cmp.Ordering.TheVariants.{Less, Equal, Greater}
use Rattle.std.specs.Cmp.Lexicographic.{nat_list_cmp_total}
use Rattle.std.specs.FinMap.{empty, get, insert, remove, is_sorted, from_sorted, entries-from_sorted}
use Rattle.std.proofs.lemmas.List.{length-append, at_drop_more}
use Rattle.std.proofs.lemmas.List.Concat.{flat_map-cons}
use Rattle.byte_maps.specs.ByteMap.{byte_order}
use Rattle.byte_maps.specs.Totals.{added, share}
use Rattle.byte_maps.proofs.Prelude.{same_bytes, none_is_empty, after_insert, after_remove, insert-remove, total-insert}
use Rattle.meta_rows.specs.declared.row_op.RowOp.{RowOp}
use Rattle.meta_rows.specs.declared.row_op.RowOp.TheVariants.{Set, Drop, Flip}
use Rattle.meta_rows.specs.Prelude.{Rows, xor_bytes, all_zero, row, with_row, row_after, rows_after, key_of, LeaveAlone, key_bytes, value_bytes, op_bytes, ops_bytes, rows_size}
use Rattle.meta_rows.proofs.XorLemmas.{length-xor_bytes}

-- ---- one key

own_order : (o : Ordering) → o ≡ ordering_reverse o → is_eq o ≡ true
own_order Less e = absurd cc
own_order Equal e = refl
own_order Greater e = absurd cc

own_key : (key : List ℕ) → eq_by_cmp byte_order key key ≡ true
own_key key = own_order (byte_order key key) (nat_list_cmp_total.antisymm key key)

other_order : (o : Ordering) → (o ≡ Equal → ⊥) → is_eq o ≡ false
other_order Less f = refl
other_order Equal f = absurd (f refl)
other_order Greater f = refl

other_key : (a b : List ℕ) → (a ≡ b → ⊥) → eq_by_cmp byte_order a b ≡ false
other_key a b differ = other_order (byte_order a b) (λ e. differ (same_bytes a b e))

pub get-insert_same : (rows : Rows) (key value : List ℕ) → get (insert rows key value) key ≡ Some value
get-insert_same rows key value = after_insert rows key value key ∙ ap (λ b. cond b (Some value) (get rows key)) (own_key key)

pub get-remove_same : (rows : Rows) (key : List ℕ) → get (remove rows key) key ≡ None
get-remove_same rows key = after_remove rows key key ∙ ap (λ b. cond b None (get rows key)) (own_key key)

pub get-insert_other : (rows : Rows) (key value other : List ℕ) → key ≢ other → get (insert rows key value) other ≡ get rows other
get-insert_other rows key value other differ =
    after_insert rows key value other ∙ ap (λ b. cond b (Some value) (get rows other)) (other_key other key (λ e. differ (sym e)))

pub get-remove_other : (rows : Rows) (key other : List ℕ) → key ≢ other → get (remove rows key) other ≡ get rows other
get-remove_other rows key other differ =
    after_remove rows key other ∙ ap (λ b. cond b None (get rows other)) (other_key other key (λ e. differ (sym e)))

get-with_row_other : (rows : Rows) (key value other : List ℕ) → key ≢ other → get (with_row rows key value) other ≡ get rows other
get-with_row_other rows key value other differ =
    elim (all_zero value) as (λ b. get (cond b (remove rows key) (insert rows key value)) other ≡ get rows other) [
      | true ↦ get-remove_other rows key other differ
      | false ↦ get-insert_other rows key value other differ
    ]

-- an operation of another key leaves a row as it is
pub get-row_after_other : (rows : Rows) (op : RowOp) (other : List ℕ) → key_of op ≢ other → get (row_after rows op) other ≡ get rows other
get-row_after_other rows (Set key value) other differ = get-insert_other rows key value other differ
get-row_after_other rows (Drop key) other differ = get-remove_other rows key other differ
get-row_after_other rows (Flip key mask) other differ = get-with_row_other rows key (xor_bytes (row rows key) mask) other differ

-- and so do any number of them
pub get-rows_after_other : (rows : Rows) (ops : List RowOp) (key : List ℕ) → LeaveAlone ops key → get (rows_after rows ops) key ≡ get rows key
get-rows_after_other rows [] key alone = refl
get-rows_after_other rows (op ∷ ops) key alone = get-rows_after_other (row_after rows op) ops key alone.1 ∙ get-row_after_other rows op key alone.0

-- ---- bytes

abbrev pub entry_size : List ℕ → List ℕ → ℕ
entry_size key value = 7 + length key + length value

-- a row that was set adds its own bytes and takes those away that it had
pub size-insert : (rows : Rows) (key value : List ℕ) → rows_size (insert rows key value) + share entry_size key (get rows key) ≡ entry_size key value +
    rows_size rows
size-insert rows key value = total-insert entry_size key value rows

pub size-remove : (rows : Rows) (key : List ℕ) → rows_size (remove rows key) + share entry_size key (get rows key) ≡ rows_size rows
size-remove rows key =
    let again = ap rows_size (insert-remove rows key []) in
    let none = ap (share entry_size key) (get-remove_same rows key) in
    omega (arith, size-insert rows key [], size-insert (remove rows key) key [], again, none)

-- the bytes that a row gets by a mask are those that it had and those of the mask, at most
size-xored : (rows : Rows) (key mask : List ℕ) (was : Option (List ℕ)) → get rows key ≡ was
    → length (xor_bytes (row rows key) mask) + 7 + length key ≤ entry_size key mask + share entry_size key (get rows key)
size-xored rows key mask None is =
    let empty = ap (λ o. length (xor_bytes (unwrap_or o []) mask)) is in
    omega (arith, empty)
size-xored rows key mask (Some value) is =
    let held = ap (λ o. length (xor_bytes (unwrap_or o []) mask)) is in
    omega (arith, held, length-xor_bytes value mask, ap (share entry_size key) is)

size-with_row : (rows : Rows) (key mask : List ℕ) → rows_size (with_row rows key (xor_bytes (row rows key) mask)) ≤ rows_size rows + entry_size key mask
size-with_row rows key mask =
    let value = xor_bytes (row rows key) mask in
    elim (all_zero value) as (λ b. rows_size (cond b (remove rows key) (insert rows key value)) ≤ rows_size rows + entry_size key mask) [
      | true ↦ omega (arith, size-remove rows key)
      | false ↦ omega (arith, size-insert rows key value, size-xored rows key mask (get rows key) refl)
    ]

length-set_bytes : (key value : List ℕ) → length (op_bytes (Set key value)) ≡ entry_size key value
length-set_bytes key value = omega (arith, length-append (1 ∷ key_bytes key) (value_bytes value))

-- an operation adds the bytes of its spelling at most
size-row_after : (rows : Rows) (op : RowOp) → rows_size (row_after rows op) ≤ rows_size rows + length (op_bytes op)
size-row_after rows (Set key value) = omega (arith, size-insert rows key value, length-set_bytes key value)
size-row_after rows (Drop key) = omega (arith, size-remove rows key)
size-row_after rows (Flip key mask) = omega (arith, size-with_row rows key mask, length-append (3 ∷ key_bytes key) (value_bytes mask))

-- and so do any number of them
pub size-rows_after : (rows : Rows) (ops : List RowOp) → rows_size (rows_after rows ops) ≤ rows_size rows + length (ops_bytes ops)
size-rows_after rows [] = omega arith
size-rows_after rows (op ∷ ops) =
    omega (
      arith,
      size-rows_after (row_after rows op) ops,
      size-row_after rows op,
      ap length (flat_map-cons op_bytes op ops),
      length-append (op_bytes op)
          (ops_bytes ops),
    )

-- ---- adding up

pub rows_size_is : (rows : Rows) (es : List (List ℕ × List ℕ)) → T (is_sorted byte_order es) → from_sorted {R = byte_order} es ≡ rows
    → rows_size rows ≡ added entry_size es
rows_size_is rows es sorted is = ap rows_size (sym is) ∙ ap (added entry_size) (entries-from_sorted byte_order es sorted)

pub added-drop : (es : List (List ℕ × List ℕ)) (i : ℕ) (e : List ℕ × List ℕ) → i < length es → e ≡ get_or es i e
    → added entry_size (drop i es) ≡ entry_size e.0 e.1 + added entry_size (drop (i + 1) es)
added-drop es i e below at = at_drop_more (added entry_size) es i e below
    ∙ ap (λ (x : List ℕ × List ℕ). entry_size x.0 x.1 + added entry_size (drop (i + 1) es)) (sym at)

-- no rows have no bytes
pub rows_size-empty : rows_size empty ≡ 0
rows_size-empty = rows_size_is empty [] tt none_is_empty
