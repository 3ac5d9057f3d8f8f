-- Rows, and what row operations make of them.
use Rattle.std.specs.Prelude.{◌≢◌, ℕ, Bool, true, ◌&&◌, ◌==◌, List, [], ◌∷◌, unwrap_or, if◌then◌else◌, bit_xor}
use Rattle.std.specs.List.{AllByRecursion}
use Rattle.std.specs.FinMap as map
use Rattle.byte_maps.specs.ByteMap.{ByteMap}
use Rattle.meta_rows.specs.declared.row_op.RowOp.{RowOp}
use Rattle.meta_rows.specs.declared.row_op.RowOp.TheVariants.{Set, Drop, Flip}

abbrev pub Rows : Type 0
Rows = ByteMap (List ℕ)

-- the exclusive-or byte by byte, the shorter list filled up with zeros
abbrev pub xor_bytes : List ℕ → List ℕ → List ℕ
xor_bytes [] ys = ys
xor_bytes (x ∷ xs) [] = x ∷ xs
xor_bytes (x ∷ xs) (y ∷ ys) = bit_xor x y ∷ xor_bytes xs ys

abbrev pub all_zero : List ℕ → Bool
all_zero [] = true
all_zero (b ∷ bs) = b == 0 && all_zero bs

-- a row, where a missing one is empty
abbrev pub row : Rows → List ℕ → List ℕ
row rows key = unwrap_or (map.get rows key) []

-- the rows with this one, which goes where it has no byte other than zero
abbrev pub with_row : Rows → List ℕ → List ℕ → Rows
with_row rows key value = if all_zero value then map.remove rows key else map.insert rows key value

abbrev pub row_after : Rows → RowOp → Rows
row_after rows (Set key value) = map.insert rows key value
row_after rows (Drop key) = map.remove rows key
row_after rows (Flip key mask) = with_row rows key (xor_bytes (row rows key) mask)

abbrev pub rows_after : Rows → List RowOp → Rows
rows_after rows [] = rows
rows_after rows (op ∷ ops) = rows_after (row_after rows op) ops

-- the rows that records make, from none
abbrev pub rows_of_records : Rows → List (List RowOp) → Rows
rows_of_records rows [] = rows
rows_of_records rows (ops ∷ more) = rows_of_records (rows_after rows ops) more

-- the key of the row that an operation changes
abbrev pub key_of : RowOp → List ℕ
key_of (Set key value) = key
key_of (Drop key) = key
key_of (Flip key mask) = key

-- no operation changes the row of this key
abbrev pub LeaveAlone : List RowOp → List ℕ → Type 0
LeaveAlone ops key = AllByRecursion (λ op. key_of op ≢ key) ops
