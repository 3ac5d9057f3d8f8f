-- Onodes, and extents, read from bytes.
use Rattle.std.specs.Prelude.{◌≡◌, ◌≢◌, ℕ, ◌<◌, ◌≤◌, ◌^◌, List, [], ◌∷◌, ◌++◌, length}
use Rattle.std.specs.List.{flat_map, AllByRecursion}
use Rattle.std.specs.Int.{w16, w32, w64, to_le_bytes}
use Rattle.unit_fields.specs.declared.width.Width.{Width}
use Rattle.row_format.specs.Prelude.{Extent, private, extent_bytes, FitsExtent, csum_bytes, csum_in, FitsCsum}
use Rattle.onode_codec.specs.declared.extent.Head.{Head}
use Rattle.onode_codec.specs.declared.extent.LonePage.{LonePage}
use Rattle.onode_codec.specs.declared.extent.Start.{Start}
use Rattle.onode_codec.specs.declared.extent.Start.TheVariants.{Unit as OnUnit, Slot as OnSlot}

-- the bytes are the one spelling of an onode of this size
pub record SpellsOnode (bytes : List ℕ) (size : ℕ) : Type 0 where
  pub below : size < 2 ^ 64
  pub spelled : bytes ≡ to_le_bytes w64 size

-- the kind of an extent, and where its first page stands: the kind 0 and a unit, or the kind 1, a blob's number and a slot
abbrev pub start_bytes : Start → List ℕ
start_bytes (OnUnit unit) = 0 ∷ to_le_bytes w32 unit
start_bytes (OnSlot sbid index) = 1 ∷ (to_le_bytes w64 sbid ++ to_le_bytes w16 index)

abbrev pub FitsStart : Start → Type 0
FitsStart (OnUnit unit) = unit < 2 ^ 32
FitsStart (OnSlot sbid index) = (sbid < 2 ^ 64) × (index < 2 ^ 16)

-- the bytes of an extent before its checksums, if it has some: the first page, the number of pages, and where the first stands
abbrev pub extent_head : Head → List ℕ
extent_head h = to_le_bytes w32 h.first ++ (to_le_bytes w16 h.count ++ start_bytes h.start)

-- the extent that a lone page has
abbrev pub lone_extent : LonePage → Extent
lone_extent l = record { first = l.first; body = private l.unit (l.csum ∷ []) }

-- no extent stands at the front
abbrev pub BeginsWithNoExtent : Width → List ℕ → Type 0
BeginsWithNoExtent w bytes = (e : Extent) (rest : List ℕ) → FitsExtent w e → bytes ≢ extent_bytes w e ++ rest

-- no kind of extent stands at the front with where its first page stands
abbrev pub HasNoStart : List ℕ → Type 0
HasNoStart bytes = (start : Start) (rest : List ℕ) → FitsStart start → bytes ≢ start_bytes start ++ rest

-- it was read
pub record ReadsStart (old new : List ℕ) (start : Start) : Type 0 where
  pub fits : FitsStart start
  pub spelled : old ≡ start_bytes start ++ new

-- the first page, the number of pages and the kind were read
pub record ReadsFront (old new : List ℕ) (first count kind : ℕ) : Type 0 where
  pub first_below : first < 2 ^ 32
  pub count_below : count < 2 ^ 16
  pub spelled : old ≡ to_le_bytes w32 first ++ (to_le_bytes w16 count ++ (kind ∷ new))

-- the head of an extent of 1 to 256 pages was read
pub record ReadsHead (old new : List ℕ) (h : Head) : Type 0 where
  pub first_below : h.first < 2 ^ 32
  pub start_fits : FitsStart h.start
  pub some : 0 < h.count
  pub most : h.count ≤ 256
  pub spelled : old ≡ extent_head h ++ new

-- a checksum was read
pub record ReadsCsum (w : Width) (old new : List ℕ) (csum : ℕ) : Type 0 where
  pub fits : FitsCsum w csum
  pub is : csum ≡ csum_in w old
  pub spelled : old ≡ csum_bytes w csum ++ new

-- so many checksums were read
pub record ReadsCsums (w : Width) (count : ℕ) (old new csums : List ℕ) : Type 0 where
  pub size : length csums ≡ count
  pub fit : AllByRecursion (FitsCsum w) csums
  pub spelled : old ≡ flat_map (csum_bytes w) csums ++ new

-- an extent was read
pub record ReadsExtent (w : Width) (old new : List ℕ) (e : Extent) : Type 0 where
  pub fits : FitsExtent w e
  pub spelled : old ≡ extent_bytes w e ++ new

-- the bytes are the extents' one spelling, with checksums of this width
pub record SpellExtents (w : Width) (bytes : List ℕ) (es : List Extent) : Type 0 where
  pub fit : AllByRecursion (FitsExtent w) es
  pub spelled : bytes ≡ flat_map (extent_bytes w) es
