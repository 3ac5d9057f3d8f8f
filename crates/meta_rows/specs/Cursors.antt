-- Places in the spelling of rows, each row as the operation that sets it.
use Rattle.std.specs.Prelude.{◌≡◌, ◌⊎◌, ℕ, ◌+◌, ◌<◌, List, [], ◌∷◌, ◌++◌, Option, Some, None, length, get_or, take, drop}
use Rattle.meta_rows.specs.Rows.{Rows}
use Rattle.meta_rows.specs.Chunks.{Entry}
use Rattle.meta_rows.specs.Table.{rows_from_to, list_size}
use Rattle.meta_rows.specs.declared.row_cursor.RowCursor.{RowCursor}
use Rattle.meta_rows.specs.declared.part.Part.{Part}

-- how many bytes lie before the cursor: those of the rows below its key, of all where it has none, and those that it passed behind them
abbrev pub bytes_before : Rows → RowCursor → ℕ
bytes_before rows at = list_size (rows_from_to rows [] at.key) + at.passed

-- the rows whose bytes lie behind those of the rows below a key
abbrev pub rows_on : Rows → Option (List ℕ) → List Entry
rows_on rows None = []
rows_on rows (Some key) = rows_from_to rows key None

-- the row of this key stands among rows, and so many bytes lie before it and in those of its own that are passed
pub record StandsIn (rows : List Entry) (key : List ℕ) (passed place : ℕ) : Type 0 where
  pub front : List Entry
  pub value : List ℕ
  pub back : List Entry
  pub is : rows ≡ front ++ (key, value) ∷ back
  pub place_is : list_size front + passed ≡ place

-- the last row was taken, if there is one
abbrev pub TakesLast : List Entry → List Entry → Option Entry → Type 0
TakesLast old new None = old ≡ []
TakesLast old new (Some row) = old ≡ new ++ row ∷ []

-- how many rows at the front may be left out: none, or all before one whose value is reached
abbrev pub StopsAt : (List ℕ → Type 0) → List Entry → ℕ → Type 0
StopsAt IsReached rows count = (count ≡ 0) ⊎ (count < length rows) × ((d : Entry) → IsReached (get_or rows count d).1)

-- the first row's value is reached
abbrev pub BeginsReached : (List ℕ → Type 0) → List Entry → Type 0
BeginsReached IsReached [] = ⊥
BeginsReached IsReached (row ∷ rows) = IsReached row.1

-- rows at the front are left out, or none: those before one whose value is reached
pub record SkipsTo (IsReached : List ℕ → Type 0) (old new : List Entry) : Type 0 where
  pub front : List Entry
  pub is : old ≡ front ++ new
  pub stops : (front ≡ []) ⊎ BeginsReached IsReached new

-- what a part has once these bytes have come: those behind the ones that it passes over, as far as they are wanted
abbrev pub part_with : Part → List ℕ → List ℕ
part_with p bytes = p.bytes.items ++ take p.left (drop p.skip bytes)

-- these bytes have come: whatever comes behind them, it comes to the same
abbrev pub HasCome : List ℕ → Part → Part → Type 0
HasCome bytes old new = (more : List ℕ) → part_with new more ≡ part_with old (bytes ++ more)
