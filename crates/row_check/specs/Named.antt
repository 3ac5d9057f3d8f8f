-- Which collection named a blob first, of the shards that were passed, and what a shard asks of the blobs that it names.
use Rattle.std.specs.Prelude.{◌≡◌, ◌≢◌, ◌↔◌, ℕ, ◌<◌, ◌≤◌, ◌^◌, cond, List, [], ◌∷◌, length, Option, Some, MatchOption, Any}
use Rattle.std.specs.FinMap as map
use Rattle.std.specs.declared.cmp.Ordering.TheVariants.{Less}
use Rattle.byte_maps.specs.ByteMap.{ByteMap, byte_order}
use Rattle.unit_fields.specs.declared.width.Width.{Width}
use Rattle.meta_rows.specs.Prelude.{Rows}
use Rattle.row_format.specs.Prelude.{shared_key, shard_key, Body, private, shared, Extent, NamesBlob, Slot, blob, row_value, FitsBlob}
use Rattle.store_image.specs.Prelude.{HasShard, IsNamedEarlier}
use Rattle.row_reading.specs.declared.row.Row.{Row}
use Rattle.row_reading.specs.declared.row.Row.TheVariants as read
use Rattle.row_reading.specs.Reading.{SpellsRow}

-- under the key of a blob's row the collection that named the blob first
abbrev pub Namers : Type 0
Namers = ByteMap (List ℕ)

-- ---- shards that were passed

-- a shard of the collection, with one of these keys, names the blob
pub record NamesSoFar (w : Width) (rows : Rows) (Before : List ℕ → Type 0) (sbid : ℕ) (c : List ℕ) : Type 0 where
  pub object : List ℕ
  pub page : ℕ
  pub extents : List Extent
  pub has_shard : HasShard w rows c object page extents
  pub before : Before (shard_key c object page)
  pub names : Any (λ e. NamesBlob sbid e.body) extents

-- of the collections whose shards name it, it is the first
pub record NamesFirst (w : Width) (rows : Rows) (Before : List ℕ → Type 0) (sbid : ℕ) (c : List ℕ) : Type 0 where
  pub names : NamesSoFar w rows Before sbid c
  pub first : (d : List ℕ) → NamesSoFar w rows Before sbid d → byte_order d c ≢ Less

-- these are the first namers among the shards with these keys
abbrev pub AreNamersSoFar : Width → Rows → (List ℕ → Type 0) → Namers → Type 0
AreNamersSoFar w rows Before m = (sbid : ℕ) → sbid < 2 ^ 64
    → MatchOption (map.get m (shared_key sbid)) ((c : List ℕ) → ¬ NamesSoFar w rows Before sbid c) (NamesFirst w rows Before sbid)

-- ---- one shard more

-- a collection named the blob with this key, and it isn't this one
abbrev pub IsNamedByOther : Namers → List ℕ → List ℕ → Type 0
IsNamedByOther m key c = (d : List ℕ) × (map.get m key ≡ Some d) × (d ≢ c)

-- so it is exactly where a shard of an earlier collection than this names it
abbrev pub KnowsEarlier : Width → Rows → Namers → List ℕ → Type 0
KnowsEarlier w rows m c = (sbid : ℕ) → sbid < 2 ^ 64 → IsNamedByOther m (shared_key sbid) c ↔ IsNamedEarlier w rows c sbid

-- the collection names the blob, if the pages are on slots of one
abbrev pub named_too : List ℕ → Namers → Body → Namers
named_too c m (private unit csums) = m
named_too c m (shared sbid first count) = cond (map.contains_key m (shared_key sbid)) m (map.insert m (shared_key sbid) c)

-- each blob on whose slots one of the extents is
abbrev pub all_named : List ℕ → Namers → List Extent → Namers
all_named c m [] = m
all_named c m (e ∷ es) = all_named c (named_too c m e.body) es

-- the same for the extents of a row, if it is a shard
abbrev pub row_named : Namers → Row → Namers
row_named m (read.Shard c o page es) = all_named c m es
row_named m _ = m

-- ---- the row of a blob

-- the value of a blob's row says so many slots
abbrev pub IsCountSaid : List ℕ → ℕ → Type 0
IsCountSaid value count = (w : Width) (sbid first : ℕ) (slots : List Slot) → FitsBlob w sbid first slots → value ≡ row_value w (blob sbid first slots)
    → count ≡ length slots

-- if this is a blob's row, it has so many slots or more
abbrev pub SaysSlots : Width → List ℕ → List ℕ → ℕ → Type 0
SaysSlots w key value end = (sbid first : ℕ) (slots : List Slot) → SpellsRow w key value (blob sbid first slots) → end ≤ length slots

-- if a row was read that is a blob's, it has so many
abbrev pub HasSoMany : Option Row → ℕ → Type 0
HasSoMany (Some (read.Blob sbid first slots)) end = end ≤ length slots
HasSoMany _ end = Unit {0}
