-- The rows in chunks.
use Rattle.std.specs.Prelude.{◌≡◌, ℕ, suc, ◌+◌, ◌-◌, ◌*◌, ◌<◌, ◌≤◌, T, List, [], ◌∷◌, ◌++◌, length, take, drop, get_or, Result}
use Rattle.std.specs.List.{AllByRecursion}
use Rattle.std.specs.List.Sorted.{IsSearchInRange, IsBinarySearchResult}
use Rattle.std.specs.declared.cmp.Ordering.{Ordering}
use Rattle.std.specs.declared.cmp.Ordering.TheVariants.{Less, Equal}
use Rattle.std.specs.FinMap as map
use Rattle.std.specs.FinMap.Entries.{below_all}
use Rattle.std.specs.Vec.{vec_len, vec_capacity}
use Rattle.byte_maps.specs.ByteMap.{byte_order}
use Rattle.meta_rows.specs.Table.{AllBelow}
use Rattle.meta_rows.specs.declared.chunk_list.ChunkList.{ChunkList}

-- a key and its value
abbrev pub Entry : Type 0
Entry = List ℕ × List ℕ

-- the rows of all chunks, one chunk after the other
abbrev pub joined : List (List Entry) → List Entry
joined [] = []
joined (chunk ∷ chunks) = chunk ++ joined chunks

-- how the first key of a chunk compares with `key`
abbrev pub first_order : List ℕ → List Entry → Ordering
first_order key [] = Less
first_order key (row ∷ rows) = byte_order row.0 key

-- where `key` stands among rows, or where it would go
abbrev pub IsKeyPlace : List ℕ → List Entry → Result ℕ ℕ → Type 0
IsKeyPlace key rows place = IsSearchInRange place (length rows) × IsBinarySearchResult (λ row. byte_order row.0 key) rows place

-- `key` is above the last key, and so above all where they are in order
abbrev pub IsPastLast : List ℕ → List Entry → Type 0
IsPastLast key rows = (0 < length rows) × ((d : Entry) → byte_order (get_or rows (length rows - 1) d).0 key ≡ Less)

-- `key` is the last key
abbrev pub IsLastKey : List ℕ → List Entry → Type 0
IsLastKey key rows = (0 < length rows) × ((d : Entry) → byte_order (get_or rows (length rows - 1) d).0 key ≡ Equal)

-- the rows that chunks have beyond the 96 that either part of a split one has at most
abbrev pub beyond_parts : List (List Entry) → ℕ
beyond_parts [] = 0
beyond_parts (chunk ∷ chunks) = (length chunk - 96) + beyond_parts chunks

-- the same, where no chunk at all counts as a full one
abbrev pub crowd : List (List Entry) → ℕ
crowd [] = 32
crowd (chunk ∷ chunks) = beyond_parts (chunk ∷ chunks)

abbrev pub NoneEmpty : List (List Entry) → Type 0
NoneEmpty chunks = AllByRecursion (λ chunk. 0 < length chunk) chunks

abbrev pub NoneLonger : List (List Entry) → Type 0
NoneLonger chunks = AllByRecursion (λ chunk. length chunk ≤ 128) chunks

abbrev pub AllEmpty : List (List Entry) → Type 0
AllEmpty chunks = AllByRecursion (λ chunk. chunk ≡ []) chunks

-- `key` belongs into the chunk at a place: the keys before it are below, those behind it above
pub record BelongsIn (key : List ℕ) (chunks : List (List Entry)) (at : ℕ) : Type 0 where
  pub front : List (List Entry)
  pub chunk : List Entry
  pub back : List (List Entry)
  pub is : chunks ≡ front ++ chunk ∷ back
  pub place : length front ≡ at
  pub below : AllBelow key (joined front)
  pub above : T (below_all byte_order key (joined back))

-- the chunks hold rows in the order of their keys, 1 to 128 each; the spare ones are empty, and each chunk has its place in both lists
pub record IsChunked (g : ChunkList) : Type 0 where
  pub order : T (map.is_sorted byte_order (joined g.list.items))
  pub some : NoneEmpty g.list.items
  pub most : NoneLonger g.list.items
  pub free : AllEmpty g.spare.items
  pub places : vec_len g.list + vec_len g.spare ≤ vec_capacity g.list
  pub spares : vec_len g.list + vec_len g.spare ≤ vec_capacity g.spare

-- n operations find the spare chunks that they need. Each splits one chunk at most, and only one of 128 rows; the two parts then take 31 rows or
-- more before they are split again
abbrev pub HasSpares : ℕ → ChunkList → Type 0
HasSpares n g = vec_len g.spare < n → n + crowd g.list.items ≤ 32 * vec_len g.spare

-- a chunk was made ready for a key: it has room for one row more
pub record IsMadeReady (key : List ℕ) (old new : ChunkList) (at : ℕ) : Type 0 where
  pub belongs : BelongsIn key new.list.items at
  pub rows : joined new.list.items ≡ joined old.list.items
  pub short : length belongs.chunk < 128
  pub front_some : NoneEmpty belongs.front
  pub back_some : NoneEmpty belongs.back
  pub front_most : NoneLonger belongs.front
  pub back_most : NoneLonger belongs.back
  pub free : AllEmpty new.spare.items
  pub places : vec_len new.list + vec_len new.spare ≤ vec_capacity new.list
  pub spares : vec_len new.list + vec_len new.spare ≤ vec_capacity new.spare
  pub room : (n : ℕ) → HasSpares (suc n) old → vec_len new.spare < n → suc n + beyond_parts new.list.items ≤ 32 * vec_len new.spare

-- the chunk at a place is now two
pub record IsSplit (at : ℕ) (old new : ChunkList) : Type 0 where
  pub lower : List Entry
  pub upper : List Entry
  pub was : get_or old.list.items at [] ≡ lower ++ upper
  pub is : new.list.items ≡ take at old.list.items ++ lower ∷ upper ∷ drop (suc at) old.list.items
  pub low : (32 ≤ length lower) × (length lower ≤ 96)
  pub free : AllEmpty new.spare.items
  pub many : vec_len new.list ≡ vec_len old.list + 1
  pub spare : vec_len new.spare + 1 ≡ vec_len old.spare
  pub places : vec_capacity new.list ≡ vec_capacity old.list
  pub spares : vec_capacity new.spare ≡ vec_capacity old.spare

-- the same rows in chunks once more, with as much room
pub record IsRearranged (old new : ChunkList) : Type 0 where
  pub rows : joined new.list.items ≡ joined old.list.items
  pub chunked : IsChunked new
  pub room : (n : ℕ) → HasSpares n old → HasSpares n new

-- a chunk, and a place among its rows or behind them
abbrev pub IsPlace : List (List Entry) → ℕ × ℕ → Type 0
IsPlace chunks place = (place.0 < length chunks) × (place.1 ≤ length (get_or chunks place.0 []))

-- how many rows stand before it
abbrev pub rows_before : List (List Entry) → ℕ × ℕ → ℕ
rows_before chunks place = length (joined (take place.0 chunks)) + place.1
