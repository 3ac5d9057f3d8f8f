-- Rows by what they say, and the page map of an object. No row tells how wide the checksums of pages are: the width comes from the superblock.
use Rattle.std.specs.Prelude.{◌≡◌, ℕ, ◌+◌, ◌/◌, List, Some, IsSome, slice_get}
use Rattle.std.specs.Int.{w64, to_le_bytes}
use Rattle.std.specs.FinMap as map
use Rattle.unit_fields.specs.declared.width.Width.{Width}
use Rattle.meta_rows.specs.Prelude.{Rows}
use Rattle.row_format.specs.Prelude.{onode_key, Extent, Place, own, slot, place_of, Slot, Row, shard, blob, row_key, row_value, FitsRow, FitsOnode}

-- a row stands under the key, whatever it says
abbrev pub HasKey : Rows → List ℕ → Type 0
HasKey rows key = IsSome (map.get rows key)

-- under the key stands this value, of what fits
pub record HasValue (rows : Rows) (key value : List ℕ) (Fits : Type 0) : Type 0 where
  pub fits : Fits
  pub stands : map.get rows key ≡ Some value

-- the rows say this, with checksums of this width in shards and in blobs
abbrev pub HasRow : Width → Rows → Row → Type 0
HasRow w rows row = HasValue rows (row_key row) (row_value w row) (FitsRow w row)

-- the object has an onode, which says this size
abbrev pub HasOnode : Rows → List ℕ → List ℕ → ℕ → Type 0
HasOnode rows c o size = HasValue rows (onode_key c o) (to_le_bytes w64 size) (FitsOnode c o size)

-- the object has a shard from this page on, with these extents
abbrev pub HasShard : Width → Rows → List ℕ → List ℕ → ℕ → List Extent → Type 0
HasShard w rows c o page extents = HasRow w rows (shard c o page extents)

-- the page map: a shard of the object has the page, at this place
pub record IsPageAt (w : Width) (rows : Rows) (c o : List ℕ) (page : ℕ) (place : Place) : Type 0 where
  pub first : ℕ
  pub extents : List Extent
  pub has_shard : HasShard w rows c o first extents
  pub has_page : place_of extents page ≡ Some place

-- a unit that a page stands on, and the checksum that is kept for the page
pub record PageUnit : Type 0 where
  pub unit : ℕ
  pub csum : ℕ

-- a blob has the slot, which is at this unit
pub record HasSlot (w : Width) (rows : Rows) (sbid index at : ℕ) (is : Slot) : Type 0 where
  pub first : ℕ
  pub slots : List Slot
  pub has_blob : HasRow w rows (blob sbid first slots)
  pub there : slice_get slots index ≡ Some is
  pub at_is : at ≡ first + index

-- where a place is: at its own unit, or at that of the slot, as the blob's row says it
abbrev pub StandsOn : Width → Rows → Place → PageUnit → Type 0
StandsOn w rows (own unit csum) on = on ≡ record { unit = unit; csum = csum }
StandsOn w rows (slot sbid index) on = (is : Slot) × (HasSlot w rows sbid index on.unit is × (is.csum ≡ on.csum))

-- the page stands on this unit
pub record IsPageOn (w : Width) (rows : Rows) (c o : List ℕ) (page : ℕ) (on : PageUnit) : Type 0 where
  pub place : Place
  pub at : IsPageAt w rows c o page place
  pub stands : StandsOn w rows place on

-- a page of an object stands on the unit
pub record HasPage (w : Width) (rows : Rows) (unit : ℕ) : Type 0 where
  pub coll : List ℕ
  pub object : List ℕ
  pub page : ℕ
  pub on : PageUnit
  pub is_on : IsPageOn w rows coll object page on
  pub is_unit : on.unit ≡ unit

-- the page stands on no unit: its bytes are zeros
abbrev pub IsHole : Width → Rows → List ℕ → List ℕ → ℕ → Type 0
IsHole w rows c o page = (on : PageUnit) → IsPageOn w rows c o page on → ⊥

-- the pages of an object of so many bytes
abbrev pub pages_of : ℕ → ℕ
pages_of size = (size + 4095) / 4096
