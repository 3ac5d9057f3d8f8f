-- Keys and rows, read from bytes.
use Rattle.std.specs.Prelude.{◌≡◌, ℕ, ◌<◌, ◌^◌, List, [], ◌∷◌, ◌++◌}
use Rattle.std.specs.Int.{w32, to_be_bytes}
use Rattle.unit_fields.specs.Prelude.{IsName, IsCollName}
use Rattle.unit_fields.specs.declared.width.Width.{Width}
use Rattle.row_format.specs.Prelude.{coll_key, object_key, shared_key, bitmap_key, bit_rows}
use Rattle.row_format.specs.Row as format
use Rattle.row_reading.specs.declared.key.Part.{Part}
use Rattle.row_reading.specs.declared.key.Part.TheVariants.{Onode, Shard, Attribute, OmapHeader, OmapPair}
use Rattle.row_reading.specs.declared.key.RowKey.{RowKey}
use Rattle.row_reading.specs.declared.key.RowKey.TheVariants.{Collection, Object, Blob, Bitmap}
use Rattle.row_reading.specs.declared.row.Row as row
use Rattle.row_reading.specs.declared.row.Row.TheVariants as rows

-- the kind of the key of this part of an object
abbrev pub part_kind : Part → ℕ
part_kind Onode = 0x4f
part_kind (Shard page) = 0x4f
part_kind (Attribute name) = 0x41
part_kind OmapHeader = 0x4d
part_kind (OmapPair key) = 0x4d

-- what stands behind the names in that key
abbrev pub part_bytes : Part → List ℕ
part_bytes Onode = 0x6f ∷ []
part_bytes (Shard page) = 0x6f ∷ (to_be_bytes w32 page ++ 0x78 ∷ [])
part_bytes (Attribute name) = name
part_bytes OmapHeader = 0x2d ∷ []
part_bytes (OmapPair key) = 0x2e ∷ key

abbrev pub FitsPart : Part → Type 0
FitsPart Onode = Unit {0}
FitsPart (Shard page) = page < 2 ^ 32
FitsPart (Attribute name) = IsName name
FitsPart OmapHeader = Unit {0}
FitsPart (OmapPair key) = IsName key

-- the bytes are the one spelling of this part in keys of this kind
pub record IsPart (kind : ℕ) (bytes : List ℕ) (part : Part) : Type 0 where
  pub fits : FitsPart part
  pub kind_is : kind ≡ part_kind part
  pub spelled : bytes ≡ part_bytes part

abbrev pub IsNoPart : ℕ → List ℕ → Type 0
IsNoPart kind bytes = (part : Part) → ¬ IsPart kind bytes part

-- the key of what is named
abbrev pub spelled_key : RowKey → List ℕ
spelled_key (Collection c) = coll_key c
spelled_key (Object c o part) = object_key (part_kind part) c o (part_bytes part)
spelled_key (Blob sbid) = shared_key sbid
spelled_key (Bitmap r) = bitmap_key r

abbrev pub FitsKey : RowKey → Type 0
FitsKey (Collection c) = IsCollName c
FitsKey (Object c o part) = IsCollName c × IsName o × FitsPart part
FitsKey (Blob sbid) = sbid < 2 ^ 64
FitsKey (Bitmap r) = r < bit_rows

-- the bytes are the key of this
pub record SpellsKey (bytes : List ℕ) (key : RowKey) : Type 0 where
  pub fits : FitsKey key
  pub spelled : bytes ≡ spelled_key key

-- the same, by the kind and what stands behind it
abbrev pub SpellsObject : ℕ → List ℕ → RowKey → Type 0
SpellsObject kind bytes key = SpellsKey (kind ∷ bytes) key

abbrev pub IsNoKey : List ℕ → Type 0
IsNoKey bytes = (key : RowKey) → ¬ SpellsKey bytes key

-- they are the key of no row of an object
abbrev pub IsNoObject : ℕ → List ℕ → Type 0
IsNoObject kind bytes = (c o : List ℕ) (part : Part) → ¬ SpellsObject kind bytes (Object c o part)

-- a row that was read from this value, as the formats name it
abbrev pub format_row : row.Row → List ℕ → format.Row
format_row (rows.Collection c) value = format.collection c
format_row (rows.Onode c o size) value = format.onode c o size
format_row (rows.Shard c o page extents) value = format.shard c o page extents
format_row (rows.Attribute c o name) value = format.attribute c o name value
format_row (rows.OmapHeader c o) value = format.omap_header c o value
format_row (rows.OmapPair c o key) value = format.omap_pair c o key value
format_row (rows.Blob sbid first slots) value = format.blob sbid first slots
format_row (rows.Bitmap r bits) value = format.bitmap r bits

-- the key and the value are the one spelling of this row, with checksums of this width
pub record SpellsRow (w : Width) (key value : List ℕ) (r : format.Row) : Type 0 where
  pub fits : format.FitsRow w r
  pub key_is : key ≡ format.row_key r
  pub value_is : value ≡ format.row_value w r

abbrev pub IsNoRow : Width → List ℕ → List ℕ → Type 0
IsNoRow w key value = (r : format.Row) → ¬ SpellsRow w key value r
