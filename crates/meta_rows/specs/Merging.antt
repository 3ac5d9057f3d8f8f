-- Rows and operations, both in the order of their keys, merged.
use Rattle.std.specs.Prelude.{◌≡◌, ℕ, ◌+◌, T, true, false, Option, Some, None, List, [], ◌∷◌, ◌++◌, length, reverse}
use Rattle.std.specs.List.{AllByRecursion}
use Rattle.std.specs.Ordering.{is_lt}
use Rattle.std.specs.FinMap as map
use Rattle.byte_maps.specs.ByteMap.{byte_order}
use Rattle.meta_rows.specs.Rows.{key_of, rows_after}
use Rattle.meta_rows.specs.Chunks.{Entry}
use Rattle.meta_rows.specs.Filling.{Rises, rows_of, HasSpace, IsFilling, Awaits}
use Rattle.meta_rows.specs.declared.row_op.RowOp.{RowOp}
use Rattle.meta_rows.specs.declared.merging.Merging.{Merging}

abbrev pub FirstNotBelow : List ℕ → List RowOp → Type 0
FirstNotBelow key [] = Unit {0}
FirstNotBelow key (op ∷ ops) = is_lt (byte_order (key_of op) key) ≡ false

-- the first of the operations was taken, if its key is below this one
abbrev pub TakesBelow : List ℕ → List RowOp → List RowOp → Option RowOp → Type 0
TakesBelow key old new None = (new ≡ old) × FirstNotBelow key old
TakesBelow key old new (Some op) = (old ≡ op ∷ new) × (is_lt (byte_order (key_of op) key) ≡ true)

-- the operations that are left
abbrev pub ops_left : Merging → List RowOp
ops_left m = reverse m.ops.items

pub record IsMerging (m : Merging) : Type 0 where
  pub state : IsFilling m.filling
  pub rises : Rises (ops_left m)
  pub awaits : AllByRecursion (λ op. Awaits (key_of op) m.filling) (ops_left m)

-- the rows `a` were to come next, and now `b`: whatever comes behind, it comes to the same
pub record Goes (a b : List Entry) (old new : Merging) : Type 0 where
  pub order : (rest : List Entry) → T (map.is_sorted byte_order (rows_of old.filling ++ (a ++ rest)))
      → T (map.is_sorted byte_order (rows_of new.filling ++ (b ++ rest)))
  pub rows : (rest : List Entry) → T (map.is_sorted byte_order (rows_of old.filling ++ (a ++ rest)))
      → rows_after (map.from_sorted {R = byte_order} (rows_of new.filling ++ (b ++ rest))) (ops_left new)
      ≡ rows_after (map.from_sorted {R = byte_order} (rows_of old.filling ++ (a ++ rest))) (ops_left old)
  pub room : (n : ℕ) → HasSpace (n + (length a + length (ops_left old))) old.filling.all
      → HasSpace (n + (length b + length (ops_left new))) new.filling.all
