-- Objects as rows say them: how long each is, and where its pages stand.
use Rattle.std.specs.Prelude.{◌≡◌, ◌⊎◌, ◌↔◌, ℕ, ◌<◌, ◌^◌, List, Option, Some, None, Contains}
use Rattle.std.specs.Option.{option_map}
use Rattle.std.specs.FinMap as finite
use Rattle.unit_fields.specs.declared.width.Width.{Width}
use Rattle.meta_rows.specs.Prelude.{Rows}
use Rattle.meta_rows.specs.declared.row_op.RowOp.{RowOp}
use Rattle.row_format.specs.Prelude.{onode_key, shard_key, Extent, Place}
use Rattle.store_image.specs.Prelude.{HasOnode, IsPageAt}
use Rattle.bitmap_freelist.specs.Bitmap.{Units, Has, AreFlips}
use Rattle.blob_map.specs.Prelude.{PageMap, extents_of}

-- ---- layouts

-- the object has so many bytes, or is missing and has none
pub data IsSizeOf (rows : Rows) (c o : List ℕ) : ℕ → Type 0 where
  missing : finite.get rows (onode_key c o) ≡ None → IsSizeOf rows c o 0
  there : (size : ℕ) → HasOnode rows c o size → IsSizeOf rows c o size

-- the map has the object's pages, each in its place
abbrev pub IsMapOf : Width → Rows → List ℕ → List ℕ → PageMap → Type 0
IsMapOf w rows c o pages = (page : ℕ) (place : Place) → (finite.get pages page ≡ Some place) ↔ IsPageAt w rows c o page place

-- the layout of an object: how long it is, and where its pages stand
pub record Layout : Type 0 where
  pub size : ℕ
  pub pages : PageMap

-- the rows give the object this layout, or it is missing
abbrev pub HasLayout : Width → Rows → List ℕ → List ℕ → Option Layout → Type 0
HasLayout w rows c o None = finite.get rows (onode_key c o) ≡ None
HasLayout w rows c o (Some x) = HasOnode rows c o x.size × IsMapOf w rows c o x.pages

-- an object that is missing has no bytes and no pages
abbrev pub or_empty : Option Layout → Layout
or_empty None = record { size = 0; pages = finite.empty }
or_empty (Some x) = x

-- ---- rows

-- the key is that of the object's onode, or of one of its shards
abbrev pub IsKeyOf : List ℕ → List ℕ → List ℕ → Type 0
IsKeyOf c o key = (key ≡ onode_key c o) ⊎ ((page : ℕ) × (page < 2 ^ 32) × (key ≡ shard_key c o page))

-- how long the object is, if it is there, and the extents of its pages
abbrev pub size_at : Option Layout → Option ℕ
size_at x = option_map (λ x. x.size) x

abbrev pub extents_at : Option Layout → List Extent
extents_at x = extents_of (finite.entries (or_empty x).pages)

-- The operations turn the bits of the units that are taken and of those that are released, each bit once.
pub record TurnsBits (taken released : List ℕ) (flips : List RowOp) : Type 0 where
  pub units : Units
  pub are_units : (unit : ℕ) → Has units unit ↔ (Contains taken unit ⊎ Contains released unit)
  pub are_flips : AreFlips units flips
