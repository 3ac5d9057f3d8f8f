-- Chunks that are filled one after the other, by rows in the order of their keys.
use Rattle.std.specs.Prelude.{◌≡◌, ℕ, suc, ◌+◌, ◌-◌, ◌*◌, ◌≤◌, ◌%◌, ◌^◌, T, false, Option, Some, None, List, [], ◌∷◌, ◌++◌, length}
use Rattle.std.specs.Ordering.{is_lt}
use Rattle.std.specs.FinMap as map
use Rattle.std.specs.Vec.{vec_len, vec_capacity}
use Rattle.ordered_lists.specs.Lists.{Ascend}
use Rattle.byte_maps.specs.ByteMap.{byte_order}
use Rattle.meta_rows.specs.Rows.{key_of}
use Rattle.meta_rows.specs.Table.{AllBelow, list_size}
use Rattle.meta_rows.specs.Chunks.{Entry, joined, NoneEmpty, NoneLonger, AllEmpty}
use Rattle.meta_rows.specs.declared.row_op.RowOp.{RowOp}
use Rattle.meta_rows.specs.declared.chunk_list.ChunkList.{ChunkList}
use Rattle.meta_rows.specs.declared.filling.Filling.{Filling}

-- each operation's key is at least those of the operations before it
abbrev pub Rises : List RowOp → Type 0
Rises ops = Ascend (λ op later. is_lt (byte_order (key_of later) (key_of op)) ≡ false) ops

-- the row that was held back, if there is one
abbrev pub held_rows : Option Entry → List Entry
held_rows None = []
held_rows (Some row) = row ∷ []

abbrev pub held_value : Option Entry → Option (List ℕ)
held_value None = None
held_value (Some row) = Some row.1

abbrev pub row_left : List ℕ → Option (List ℕ) → Option Entry
row_left key None = None
row_left key (Some value) = Some (key, value)

abbrev pub rows_of : Filling → List Entry
rows_of f = joined f.all.list.items ++ held_rows f.held

-- how many rows the last chunk takes before the next one is begun
abbrev pub gap : List (List Entry) → ℕ
gap [] = 0
gap (chunk ∷ []) = 96 - length chunk
gap (chunk ∷ next ∷ chunks) = gap (next ∷ chunks)

-- n rows find their chunks
abbrev pub HasSpace : ℕ → ChunkList → Type 0
HasSpace n g = n ≤ 96 * vec_len g.spare + gap g.list.items

-- the chunks have 1 to 128 rows each; the spare ones are empty, and each chunk has its place in both lists
pub record IsShaped (g : ChunkList) : Type 0 where
  pub some : NoneEmpty g.list.items
  pub most : NoneLonger g.list.items
  pub free : AllEmpty g.spare.items
  pub places : vec_len g.list + vec_len g.spare ≤ vec_capacity g.list
  pub spares : vec_len g.list + vec_len g.spare ≤ vec_capacity g.spare

-- a row stands behind all others now
pub record IsAppended (row : Entry) (old new : ChunkList) : Type 0 where
  pub rows : joined new.list.items ≡ joined old.list.items ++ row ∷ []
  pub shaped : IsShaped new
  pub room : (n : ℕ) → HasSpace (suc n) old → HasSpace n new

pub record IsFilling (f : Filling) : Type 0 where
  pub order : T (map.is_sorted byte_order (rows_of f))
  pub shaped : IsShaped f.all
  pub size : f.size ≡ list_size (joined f.all.list.items) % 2 ^ 64

-- the row that was held back has this key; or no greater one
abbrev pub HoldsKey : List ℕ → Option Entry → Type 0
HoldsKey key None = ⊥
HoldsKey key (Some row) = row.0 ≡ key

abbrev pub NotBelow : List ℕ → Option Entry → Type 0
NotBelow key None = Unit {0}
NotBelow key (Some row) = is_lt (byte_order key row.0) ≡ false

-- an operation of this key may come next
abbrev pub Awaits : List ℕ → Filling → Type 0
Awaits key f = AllBelow key (joined f.all.list.items) × NotBelow key f.held
