-- Bad rows: those that the table doesn't have, and those that the rows around them contradict.
use Rattle.std.specs.Prelude.{◌≡◌, ℕ, ◌+◌, ◌<◌, ◌≤◌, ◌^◌, List, length, Some, Any}
use Rattle.std.specs.List.{AllByRecursion}
use Rattle.std.specs.FinMap as map
use Rattle.std.specs.declared.cmp.Ordering.TheVariants.{Less}
use Rattle.byte_maps.specs.ByteMap.{byte_order}
use Rattle.unit_fields.specs.declared.width.Width.{Width}
use Rattle.meta_rows.specs.Prelude.{Rows}
use Rattle.meta_log.specs.declared.slot.Super.{Super}
use Rattle.meta_log.specs.Prelude.{data_unit, width_of}
use Rattle.row_format.specs.Prelude.{coll_key, onode_key, shared_key, Body, private, shared, Extent, page_end, ExtentsAscend, NamesBlob, Slot, bit_row, bit_in, Row, collection, onode, shard, attribute, omap_header, omap_pair, blob, bitmap, row_key, row_value, FitsRow}
use Rattle.store_image.specs.Pages.{HasKey, HasRow, HasOnode, HasShard, pages_of}
use Rattle.store_image.specs.Owners.{IsDataUnit}

-- so many units from the first on are data units
abbrev pub AreData : Super → ℕ → ℕ → Type 0
AreData s first count = (data_unit s ≤ first) × (first + count ≤ s.units)

-- The pages stand on data units. (Those on slots do by their blob's row.)
abbrev pub IsOnData : Super → Body → Type 0
IsOnData s (private unit csums) = AreData s unit (length csums)
IsOnData s (shared sbid first count) = Unit {0}

-- a shard of the collection names the blob
pub record IsNamedBy (w : Width) (rows : Rows) (c : List ℕ) (sbid : ℕ) : Type 0 where
  pub object : List ℕ
  pub page : ℕ
  pub extents : List Extent
  pub has_shard : HasShard w rows c object page extents
  pub names : Any (λ e. NamesBlob sbid e.body) extents

-- a shard of another collection, whose name comes before this one, names the blob
pub record IsNamedEarlier (w : Width) (rows : Rows) (c : List ℕ) (sbid : ℕ) : Type 0 where
  pub coll : List ℕ
  pub before : byte_order coll c ≡ Less
  pub named : IsNamedBy w rows coll sbid

-- The slots are those of a blob that has a row, which has so many if it says any, and that no earlier collection names.
abbrev pub HasSlots : Width → Rows → List ℕ → Body → Type 0
HasSlots w rows c (private unit csums) = Unit {0}
HasSlots w rows c (shared sbid first count) = HasKey rows (shared_key sbid)
    × ((unit : ℕ) (slots : List Slot) → HasRow w rows (blob sbid unit slots) → first + count ≤ length slots)
    × ¬ IsNamedEarlier w rows c sbid

-- What a shard needs: its collection's and its object's rows, ascending extents that begin behind those of each earlier
-- shard of the object and end within the object's size, all on data units or on slots that blobs have. Of two shards that overlap the later is bad.
pub record IsShardInPlace (s : Super) (rows : Rows) (c o : List ℕ) (page : ℕ) (extents : List Extent) : Type 0 where
  pub has_collection : HasKey rows (coll_key c)
  pub has_onode : HasKey rows (onode_key c o)
  pub ascend : ExtentsAscend extents
  pub behind : (earlier : ℕ) (es : List Extent) → earlier < page → HasShard (width_of s) rows c o earlier es
      → AllByRecursion (λ e. page_end e ≤ page) es
  pub within : (size : ℕ) → HasOnode rows c o size → AllByRecursion (λ e. page_end e ≤ pages_of size) extents
  pub on_data : AllByRecursion (λ e. IsOnData s e.body) extents
  pub slots : AllByRecursion (λ e. HasSlots (width_of s) rows c e.body) extents

-- The object is there: its collection and it have their rows. A row that is there but bad itself is there.
abbrev pub HasObject : Rows → List ℕ → List ℕ → Type 0
HasObject rows c o = HasKey rows (coll_key c) × HasKey rows (onode_key c o)

-- the bits that are 1 are of data units
abbrev pub AreOfData : Super → ℕ → List ℕ → Type 0
AreOfData s r bits = (unit : ℕ) → bit_row unit ≡ r → bit_in bits unit ≡ 1 → IsDataUnit s unit

-- a slot that no page names keeps no checksum
abbrev pub IsBlank : Slot → Type 0
IsBlank x = x.count ≡ 0 → x.csum ≡ 0

-- What a blob needs: its number is low, its units are data units, and pages name some of its slots.
pub record IsBlobInPlace (s : Super) (sbid first : ℕ) (slots : List Slot) : Type 0 where
  pub low : sbid < 2 ^ 62
  pub on_data : AreData s first (length slots)
  pub named : Any (λ x. 0 < x.count) slots
  pub blank : AllByRecursion IsBlank slots

-- what a row of the table needs of the store and of the other rows
abbrev pub IsInPlace : Super → Rows → Row → Type 0
IsInPlace s rows (collection c) = Unit {0}
IsInPlace s rows (onode c o size) = HasKey rows (coll_key c) × (size ≤ 134217728)
IsInPlace s rows (shard c o page extents) = IsShardInPlace s rows c o page extents
IsInPlace s rows (attribute c o name value) = HasObject rows c o
IsInPlace s rows (omap_header c o value) = HasObject rows c o
IsInPlace s rows (omap_pair c o key value) = HasObject rows c o
IsInPlace s rows (blob sbid first slots) = IsBlobInPlace s sbid first slots
IsInPlace s rows (bitmap r bits) = AreOfData s r bits

-- the key and the value are a row of the table, with checksums as wide as the store's, and in its place
pub record IsGoodRow (s : Super) (rows : Rows) (key value : List ℕ) : Type 0 where
  pub row : Row
  pub fits : FitsRow (width_of s) row
  pub key_is : key ≡ row_key row
  pub value_is : value ≡ row_value (width_of s) row
  pub in_place : IsInPlace s rows row

-- the row under this key is bad
pub record IsBadRow (s : Super) (rows : Rows) (key : List ℕ) : Type 0 where
  pub value : List ℕ
  pub stands : map.get rows key ≡ Some value
  pub is_not_good : ¬ IsGoodRow s rows key value

-- each row is good
abbrev pub NoBadRow : Super → Rows → Type 0
NoBadRow s rows = (key value : List ℕ) → map.get rows key ≡ Some value → IsGoodRow s rows key value
