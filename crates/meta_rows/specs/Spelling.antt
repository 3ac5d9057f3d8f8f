-- The one spelling of row operations.
use Rattle.std.specs.Prelude.{ℕ, ◌<◌, ◌≤◌, ◌^◌, List, ◌∷◌, ◌++◌, length}
use Rattle.std.specs.List.{flat_map, AllByRecursion}
use Rattle.std.specs.Int.{w16, w32, to_le_bytes}
use Rattle.meta_rows.specs.declared.row_op.RowOp.{RowOp}
use Rattle.meta_rows.specs.declared.row_op.RowOp.TheVariants.{Set, Drop, Flip}

abbrev pub key_bytes : List ℕ → List ℕ
key_bytes key = to_le_bytes w16 (length key) ++ key

abbrev pub value_bytes : List ℕ → List ℕ
value_bytes value = to_le_bytes w32 (length value) ++ value

abbrev pub op_bytes : RowOp → List ℕ
op_bytes (Set key value) = 1 ∷ key_bytes key ++ value_bytes value
op_bytes (Drop key) = 2 ∷ key_bytes key
op_bytes (Flip key mask) = 3 ∷ key_bytes key ++ value_bytes mask

abbrev pub ops_bytes : List RowOp → List ℕ
ops_bytes ops = flat_map op_bytes ops

pub record IsKey (key : List ℕ) : Type 0 where
  pub some : 0 < length key
  pub short : length key ≤ 1024

-- what has a spelling
abbrev pub FitsRowOp : RowOp → Type 0
FitsRowOp (Set key value) = IsKey key × (length value < 2 ^ 32)
FitsRowOp (Drop key) = IsKey key
FitsRowOp (Flip key mask) = IsKey key × (length mask < 2 ^ 32)

abbrev pub AllFit : List RowOp → Type 0
AllFit ops = AllByRecursion FitsRowOp ops
