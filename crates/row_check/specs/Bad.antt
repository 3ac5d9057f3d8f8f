-- Bad rows in the order of keys, and what is known of the rows before one that is looked at.
use Rattle.std.specs.Prelude.{◌≡◌, ◌≢◌, ◌↔◌, ℕ, ◌<◌, ◌≤◌, ◌^◌, Bool, true, IsTrue, List, Option, Some, MatchOption, IfSome}
use Rattle.std.specs.List.{AllByRecursion}
use Rattle.std.specs.FinMap as map
use Rattle.std.specs.declared.cmp.Ordering.TheVariants.{Less}
use Rattle.byte_maps.specs.ByteMap.{byte_order}
use Rattle.unit_fields.specs.declared.width.Width.{Width}
use Rattle.meta_rows.specs.Prelude.{Rows}
use Rattle.meta_log.specs.declared.slot.Super.{Super}
use Rattle.meta_log.specs.Prelude.{width_of}
use Rattle.row_format.specs.Prelude.{coll_key, onode_key, shard_key, Extent, page_end, ExtentsAscend}
use Rattle.row_format.specs.Row as format
use Rattle.store_image.specs.Prelude.{HasKey, HasRow, HasOnode, HasShard, pages_of, IsOnData, HasSlots, IsInPlace, IsGoodRow, IsBadRow}
use Rattle.row_reading.specs.declared.row.Row.{Row}
use Rattle.row_reading.specs.declared.row.Row.TheVariants as read
use Rattle.row_reading.specs.Reading.{format_row}
use Rattle.ordered_lists.specs.Lists.{ListsAll}
use Rattle.row_check.specs.declared.passed.Passed.{Passed}
use Rattle.row_check.specs.Named.{AreNamersSoFar}

-- each row whose key is below this one is good
abbrev pub AreGoodBefore : Super → Rows → List ℕ → Type 0
AreGoodBefore s rows key = (k value : List ℕ) → byte_order k key ≡ Less → map.get rows k ≡ Some value → IsGoodRow s rows k value

-- the row under this key is bad, and each row whose key is below it is good
pub record IsLeastBad (s : Super) (rows : Rows) (key : List ℕ) : Type 0 where
  pub bad : IsBadRow s rows key
  pub before : AreGoodBefore s rows key

-- the row under this key and with this value is bad, or good
abbrev pub IsRowJudged : Super → Rows → List ℕ → List ℕ → Bool → Type 0
IsRowJudged s rows key value good = IsTrue good ↔ IsGoodRow s rows key value

-- the keys of bad rows, in their order
abbrev pub AreBadKeys : Super → Rows → List (List ℕ) → Type 0
AreBadKeys s rows keys = ListsAll (λ a b. byte_order a b ≡ Less) (IsBadRow s rows) keys

-- ---- rows of the table that were passed in the order of their keys, whether they are in their places or not

-- none of these keys is that of a row of the table
abbrev pub IsFirst : Width → Rows → (List ℕ → Type 0) → Type 0
IsFirst w rows Before = (r : format.Row) → HasRow w rows r → ¬ Before (format.row_key r)

-- of the rows of the table with these keys, it has the greatest one
pub record IsLast (w : Width) (rows : Rows) (Before : List ℕ → Type 0) (r : format.Row) : Type 0 where
  pub has : HasRow w rows r
  pub before : Before (format.row_key r)
  pub last : (other : format.Row) → HasRow w rows other → Before (format.row_key other) → byte_order (format.row_key r) (format.row_key other) ≢ Less

-- the pages of an object's shards with these keys end at this page, or before where there is none: what a later shard must not begin before
abbrev pub EndAt : Width → Rows → (List ℕ → Type 0) → List ℕ → List ℕ → ℕ → Type 0
EndAt w rows Before c o end = (page : ℕ) → (end ≤ page) ↔ ((first : ℕ) (es : List Extent) → HasShard w rows c o first es
    → Before (shard_key c o first) → AllByRecursion (λ e. page_end e ≤ page) es)

-- so it is of the object that this row is a shard of
abbrev pub ShardsEndAt : Width → Rows → (List ℕ → Type 0) → Option Row → ℕ → Type 0
ShardsEndAt w rows Before (Some (read.Shard c o first es)) end = EndAt w rows Before c o end
ShardsEndAt w rows Before _ end = Unit {0}

-- what is known of the rows with these keys
pub record Knows (s : Super) (rows : Rows) (Before : List ℕ → Type 0) (p : Passed) : Type 0 where
  pub last_is : MatchOption p.last (IsFirst (width_of s) rows Before) (λ row. (value : List ℕ) × IsLast (width_of s) rows Before (format_row row value))
  pub placed : p.in_place ≡ true → IfSome p.last (λ row. (value : List ℕ) → IsInPlace s rows (format_row row value))
  pub end_is : ShardsEndAt (width_of s) rows Before p.last p.end
  pub namers : AreNamersSoFar (width_of s) rows Before p.namers

-- the rows whose keys are below this one were passed, or this one and those
abbrev pub IsBelow : List ℕ → List ℕ → Type 0
IsBelow key k = byte_order k key ≡ Less

abbrev pub IsUpTo : List ℕ → List ℕ → Type 0
IsUpTo key k = byte_order key k ≢ Less

-- this row was read from some value, and the rows whose keys are below its own were passed
pub record IsAtRow (s : Super) (rows : Rows) (p : Passed) (row : Row) : Type 0 where
  pub value : List ℕ
  pub fits : format.FitsRow (width_of s) (format_row row value)
  pub knows : Knows s rows (IsBelow (format.row_key (format_row row value))) p

-- this row is a shard of the object
abbrev pub IsShardOf : Option Row → List ℕ → List ℕ → Type 0
IsShardOf (Some (read.Shard d u first es)) c o = (d ≡ c) × (u ≡ o)
IsShardOf _ c o = ⊥

-- the last row is no shard of the object, or the pages of the object's shards so far are all before this one
abbrev pub EndsBefore : Passed → List ℕ → List ℕ → ℕ → Type 0
EndsBefore p c o page = IsShardOf p.last c o → p.end ≤ page

-- the greatest page behind one of these extents
abbrev pub IsEndOf : List Extent → ℕ → Type 0
IsEndOf es end = (page : ℕ) → (end ≤ page) ↔ AllByRecursion (λ e. page_end e ≤ page) es

-- where the pages of the object's shards end once this row was passed too, if it is a shard
abbrev pub EndsWith : Passed → Row → ℕ → Type 0
EndsWith p (read.Shard c o first es) end = (page : ℕ) → (end ≤ page) ↔ (EndsBefore p c o page × AllByRecursion (λ e. page_end e ≤ page) es)
EndsWith p _ end = Unit {0}

-- the numbers of pages in it are far from their end
abbrev pub HasLowPages : Row → Type 0
HasLowPages (read.Shard c o first es) = AllByRecursion (λ e. page_end e < 2 ^ 33) es
HasLowPages _ = Unit {0}

-- this row is of the object
abbrev pub IsOfObject : Option Row → List ℕ → List ℕ → Type 0
IsOfObject (Some (read.Onode d u size)) c o = (d ≡ c) × (u ≡ o)
IsOfObject (Some (read.Shard d u first es)) c o = (d ≡ c) × (u ≡ o)
IsOfObject (Some (read.Attribute d u name)) c o = (d ≡ c) × (u ≡ o)
IsOfObject (Some (read.OmapHeader d u)) c o = (d ≡ c) × (u ≡ o)
IsOfObject (Some (read.OmapPair d u key)) c o = (d ≡ c) × (u ≡ o)
IsOfObject _ c o = ⊥

-- of none
abbrev pub IsOfNoObject : Option Row → Type 0
IsOfNoObject last = (c o : List ℕ) → ¬ IsOfObject last c o

-- it is in its place and of the object
abbrev pub IsPlacedOf : Passed → List ℕ → List ℕ → Type 0
IsPlacedOf p c o = (p.in_place ≡ true) × IsOfObject p.last c o

-- of an object of the collection
abbrev pub IsPlacedIn : Passed → List ℕ → Type 0
IsPlacedIn p c = (o : List ℕ) × IsPlacedOf p c o

-- this row is the object's onode, and says this size
abbrev pub IsOnodeOf : Option Row → List ℕ → List ℕ → ℕ → Type 0
IsOnodeOf (Some (read.Onode d u own)) c o size = (d ≡ c) × (u ≡ o) × (own ≡ size)
IsOnodeOf _ c o size = ⊥

-- the object is there, and the extents end within its size
pub record IsWithinOnode (rows : Rows) (c o : List ℕ) (extents : List Extent) : Type 0 where
  pub has_onode : HasKey rows (onode_key c o)
  pub within : (size : ℕ) → HasOnode rows c o size → AllByRecursion (λ e. page_end e ≤ pages_of size) extents

-- what a shard needs beside extents that begin behind those of the earlier shards
pub record ShardStands (s : Super) (rows : Rows) (c o : List ℕ) (extents : List Extent) : Type 0 where
  pub ascend : ExtentsAscend extents
  pub on_data : AllByRecursion (λ e. IsOnData s e.body) extents
  pub has_collection : HasKey rows (coll_key c)
  pub within_onode : IsWithinOnode rows c o extents
  pub slots : AllByRecursion (λ e. HasSlots (width_of s) rows c e.body) extents
