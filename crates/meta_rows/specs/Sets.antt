-- Rows as the operations that make them.
use Rattle.std.specs.Prelude.{◌≡◌, ℕ, ◌<◌, ◌^◌, List, [], ◌∷◌, length, Some}
use Rattle.std.specs.FinMap as map
use Rattle.meta_rows.specs.Rows.{Rows}
use Rattle.meta_rows.specs.Spelling.{IsKey}
use Rattle.meta_rows.specs.declared.row_op.RowOp.{RowOp}
use Rattle.meta_rows.specs.declared.row_op.RowOp.TheVariants.{Set}

-- the operations that set the rows of a list, one after the other
abbrev pub sets_of : List (List ℕ × List ℕ) → List RowOp
sets_of [] = []
sets_of (e ∷ es) = Set e.0 e.1 ∷ sets_of es

-- the operations that set each row, in the order of the keys
abbrev pub row_sets : Rows → List RowOp
row_sets rows = sets_of (map.entries rows)

-- each row has a spelling as an operation that sets it
abbrev pub RowsFit : Rows → Type 0
RowsFit rows = (key value : List ℕ) → map.get rows key ≡ Some value → IsKey key × (length value < 2 ^ 32)
