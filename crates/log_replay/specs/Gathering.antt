-- Rows with operations that are to be applied to them together.
use Rattle.std.specs.Prelude.{◌≡◌, ℕ, Bool, true, false, ◌==◌, List, [], ◌∷◌, ◌++◌, get_or}
use Rattle.std.specs.Int.{w64, from_be_bytes}
use Rattle.std.specs.List.{AllByRecursion}
use Rattle.meta_rows.specs.Prelude.{Rows, rows_after, key_of}
use Rattle.meta_rows.specs.declared.row_op.RowOp.{RowOp}
use Rattle.log_replay.specs.declared.gathering.Gathered.{Gathered}

-- the rows after the operations that wait
abbrev pub rows_so_far : Gathered → Rows
rows_so_far g = rows_after g.rows.rows (g.others.items ++ g.bits.items)

-- the key is of a row of the bitmap, if it is of any
abbrev pub is_bitmap_key : List ℕ → Bool
is_bitmap_key [] = false
is_bitmap_key (kind ∷ rest) = kind == 98

-- operations on rows of the bitmap; or on none
abbrev pub AreBits : List RowOp → Type 0
AreBits ops = AllByRecursion (λ op. is_bitmap_key (key_of op) ≡ true) ops

abbrev pub AreOthers : List RowOp → Type 0
AreOthers ops = AllByRecursion (λ op. is_bitmap_key (key_of op) ≡ false) ops

-- the operations that wait are in the list of their kind
abbrev pub IsParted : Gathered → Type 0
IsParted g = AreOthers g.others.items × AreBits g.bits.items

-- the number that the first eight bytes spell, those behind the end being zero
abbrev pub first_word : List ℕ → ℕ
first_word bytes = from_be_bytes w64
    (get_or bytes 0 0 ∷ get_or bytes 1 0 ∷ get_or bytes 2 0 ∷ get_or bytes 3 0 ∷ get_or bytes 4 0 ∷ get_or bytes 5 0 ∷
    get_or bytes 6 0 ∷ get_or bytes 7 0 ∷ [])
