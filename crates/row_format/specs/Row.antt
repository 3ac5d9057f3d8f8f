-- Rows as what they say. The kinds here are collections, onodes, shards of extents, attributes, omap headers, omap pairs, shared blobs and rows of the
-- freelist's bitmap; deferred writes, the other one of the keys' table, are to be a further case.
use Rattle.std.specs.Prelude.{◌≡◌, ℕ, ◌<◌, ◌≤◌, ◌^◌, List, [], ◌++◌, length, false, Option, Some, None}
use Rattle.std.specs.List.{flat_map, AllByRecursion}
use Rattle.std.specs.Int.{w16, w32, w64, to_le_bytes, from_le_bytes}
use Rattle.unit_fields.specs.Prelude.{IsName, IsCollName}
use Rattle.unit_fields.specs.declared.width.Width.{Width}
use Rattle.meta_rows.specs.Prelude.{all_zero}
use Rattle.row_format.specs.Bits.{bit_rows}
use Rattle.row_format.specs.Keys.{coll_key, onode_key, shard_key, attr_key, header_key, omap_key, shared_key, bitmap_key}
use Rattle.row_format.specs.Extents.{Extent, extent_bytes, FitsExtent, BeginsAt}
use Rattle.row_format.specs.Blobs.{Slot, slot_bytes, FitsSlot, slots_read}
use Rattle.row_format.specs.ExtentReading.{extents_read}
use Rattle.row_format.specs.Things.{Thing, a_collection, an_onode, a_shard, an_attribute, an_omap_header, an_omap_pair, a_shared_blob, a_bitmap_row}

pub data Row : Type 0 where
  collection : (c : List ℕ) → Row
  onode : (c o : List ℕ) (size : ℕ) → Row
  shard : (c o : List ℕ) (page : ℕ) (extents : List Extent) → Row
  attribute : (c o name value : List ℕ) → Row
  omap_header : (c o value : List ℕ) → Row
  omap_pair : (c o key value : List ℕ) → Row
  blob : (sbid first : ℕ) (slots : List Slot) → Row
  bitmap : (r : ℕ) (bits : List ℕ) → Row

abbrev pub row_key : Row → List ℕ
row_key (collection c) = coll_key c
row_key (onode c o size) = onode_key c o
row_key (shard c o page extents) = shard_key c o page
row_key (attribute c o name value) = attr_key c o name
row_key (omap_header c o value) = header_key c o
row_key (omap_pair c o key value) = omap_key c o key
row_key (blob sbid first slots) = shared_key sbid
row_key (bitmap r bits) = bitmap_key r

-- the value, with checksums of this width in shards and in blobs
abbrev pub row_value : Width → Row → List ℕ
row_value w (collection c) = []
row_value w (onode c o size) = to_le_bytes w64 size
row_value w (shard c o page extents) = flat_map (extent_bytes w) extents
row_value w (attribute c o name value) = value
row_value w (omap_header c o value) = value
row_value w (omap_pair c o key value) = value
row_value w (blob sbid first slots) = to_le_bytes w32 first ++ (to_le_bytes w16 (length slots) ++ flat_map (slot_bytes w) slots)
row_value w (bitmap r bits) = bits

-- an object's names, and a size that fits its field
abbrev pub FitsOnode : List ℕ → List ℕ → ℕ → Type 0
FitsOnode c o size = IsCollName c × IsName o × (size < 2 ^ 64)

-- a shard has at least one extent, and the first is at the page of its key
pub record FitsShard (w : Width) (c o : List ℕ) (page : ℕ) (extents : List Extent) : Type 0 where
  pub coll_name : IsCollName c
  pub object_name : IsName o
  pub page_below : page < 2 ^ 32
  pub begins : BeginsAt page extents
  pub fit : AllByRecursion (FitsExtent w) extents

-- a value under a name that an object gives it: an attribute's, or a key of the omap
pub record FitsNamed (c o name value : List ℕ) : Type 0 where
  pub coll_name : IsCollName c
  pub object_name : IsName o
  pub named : IsName name
  pub short : length value ≤ 65535

-- an omap header; an empty one has no row
pub record FitsHeader (c o value : List ℕ) : Type 0 where
  pub coll_name : IsCollName c
  pub object_name : IsName o
  pub some : 0 < length value
  pub short : length value ≤ 65535

-- 1 to 256 slots on consecutive units
pub record FitsBlob (w : Width) (sbid first : ℕ) (slots : List Slot) : Type 0 where
  pub number : sbid < 2 ^ 64
  pub unit : first < 2 ^ 32
  pub some : 0 < length slots
  pub few : length slots ≤ 256
  pub fit : AllByRecursion (FitsSlot w) slots

-- the bits of 128 units, not all of them 0
pub record FitsBitmap (r : ℕ) (bits : List ℕ) : Type 0 where
  pub below : r < bit_rows
  pub size : length bits ≡ 16
  pub some : all_zero bits ≡ false

-- what the table has
abbrev pub FitsRow : Width → Row → Type 0
FitsRow w (collection c) = IsCollName c
FitsRow w (onode c o size) = FitsOnode c o size
FitsRow w (shard c o page extents) = FitsShard w c o page extents
FitsRow w (attribute c o name value) = FitsNamed c o name value
FitsRow w (omap_header c o value) = FitsHeader c o value
FitsRow w (omap_pair c o key value) = FitsNamed c o key value
FitsRow w (blob sbid first slots) = FitsBlob w sbid first slots
FitsRow w (bitmap r bits) = FitsBitmap r bits

-- what a row is of
abbrev pub row_thing : Row → Thing
row_thing (collection c) = a_collection c
row_thing (onode c o size) = an_onode c o
row_thing (shard c o page extents) = a_shard c o page
row_thing (attribute c o name value) = an_attribute c o name
row_thing (omap_header c o value) = an_omap_header c o
row_thing (omap_pair c o key value) = an_omap_pair c o key
row_thing (blob sbid first slots) = a_shared_blob sbid
row_thing (bitmap r bits) = a_bitmap_row r

-- two rows say something of the same thing
abbrev pub IsOfSameThing : Row → Row → Type 0
IsOfSameThing a b = row_thing a ≡ row_thing b

-- the row of a thing that a value says, where rows of its kind are there
abbrev pub row_of : Width → Thing → List ℕ → Option Row
row_of w (a_collection c) value = Some (collection c)
row_of w (an_onode c o) value = Some (onode c o (from_le_bytes w64 value))
row_of w (a_shard c o page) value = Some (shard c o page (extents_read w value))
row_of w (an_attribute c o name) value = Some (attribute c o name value)
row_of w (an_omap_header c o) value = Some (omap_header c o value)
row_of w (an_omap_pair c o key) value = Some (omap_pair c o key value)
row_of w (a_shared_blob sbid) value = Some (blob sbid (from_le_bytes w32 value) (slots_read w value))
row_of w (a_bitmap_row r) value = Some (bitmap r value)
row_of w _ value = None

-- what a shard says: of which object, from which page on, and its extents
pub record ShardRow : Type 0 where
  pub coll : List ℕ
  pub object : List ℕ
  pub page : ℕ
  pub extents : List Extent

-- as a row
abbrev pub as_row : ShardRow → Row
as_row s = shard s.coll s.object s.page s.extents

-- one that says nothing
abbrev pub no_shard : ShardRow
no_shard = record { coll = []; object = []; page = 0; extents = [] }

-- what a row says of an object's extents: nothing, where it is no shard
abbrev pub shard_in : Row → ShardRow
shard_in (shard c o page extents) = record { coll = c; object = o; page = page; extents = extents }
shard_in _ = no_shard
