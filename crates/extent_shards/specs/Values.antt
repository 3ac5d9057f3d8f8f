-- Pages as they stand in the value of a shard's row: put into a map as they are read, and written from a map's entries.
use Rattle.std.specs.Prelude.{◌≡◌, ℕ, ◌+◌, ◌<◌, ◌≤◌, List, [], ◌∷◌, ◌++◌, length, map, take, drop}
use Rattle.std.specs.List.{AllByRecursion}
use Rattle.unit_fields.specs.declared.width.Width.{Width}
use Rattle.unit_fields.specs.Prelude.{bytes_of}
use Rattle.row_format.specs.Prelude.{Extent, Body, private, shared, Place, extent_bytes, FitsExtent}
use Rattle.onode_codec.specs.declared.extent.Head.{Head}
use Rattle.onode_codec.specs.declared.extent.LonePage.{LonePage}
use Rattle.onode_codec.specs.declared.extent.Start.{Start}
use Rattle.onode_codec.specs.declared.extent.Start.TheVariants.{Unit as OnUnit, Slot as OnSlot}
use Rattle.onode_codec.specs.Reading.{ReadsCsums, ReadsExtent, SpellExtents}
use Rattle.blob_map.specs.Pages.{PageMap, HasNumbers, csum_of, extent_pages, with_pages}
use Rattle.blob_map.specs.Normal.{extents_of}

-- the bytes spell extents whose numbers fit their fields
pub record SpellPages (w : Width) (bytes : List ℕ) : Type 0 where
  pub extents : List Extent
  pub spelled : SpellExtents w bytes extents
  pub numbers : AllByRecursion HasNumbers extents

-- such an extent stands at the front
pub record BeginsWithPages (w : Width) (bytes : List ℕ) : Type 0 where
  pub extent : Extent
  pub rest : List ℕ
  pub fits : FitsExtent w extent
  pub numbers : HasNumbers extent
  pub spelled : bytes ≡ extent_bytes w extent ++ rest

-- so many pages from there on, with these checksums where they stand on units of the object's own
abbrev pub body_with : Start → ℕ → List ℕ → Body
body_with (OnUnit unit) count csums = private unit csums
body_with (OnSlot sbid index) count csums = shared sbid index count

-- the extent of a head with these checksums
abbrev pub extent_with : Head → List ℕ → Extent
extent_with h csums = record { first = h.first; body = body_with h.start h.count csums }

-- how many bytes the extent of a head has
abbrev pub run_size : Width → Start → ℕ → ℕ
run_size w (OnUnit unit) count = 11 + bytes_of w count
run_size w (OnSlot sbid index) count = 17

-- the first pages of an extent on units, so many of them: their checksums were read, and the pages are put in their places
pub record PutsFirst (w : Width) (first unit count : ℕ) (old new : List ℕ) (pages pages' : PageMap) : Type 0 where
  pub csums : List ℕ
  pub read : ReadsCsums w count old new csums
  pub put : pages' ≡ with_pages pages (extent_pages (record { first = first; body = private unit csums }))

-- an extent was read, and its pages are put in their places
pub record PutsExtent (w : Width) (old new : List ℕ) (pages pages' : PageMap) : Type 0 where
  pub extent : Extent
  pub read : ReadsExtent w old new extent
  pub put : pages' ≡ with_pages pages (extent_pages extent)

-- the checksums of pages
abbrev pub csums_of : List (ℕ × Place) → List ℕ
csums_of ps = map (λ p. csum_of p.1) ps

-- the head is that of the first of the pages' extents, which has the first pages
pub record IsFirstRun (ps : List (ℕ × Place)) (h : Head) : Type 0 where
  pub some : 0 < h.count
  pub most : h.count ≤ 256
  pub within : h.count ≤ length ps
  pub run : extents_of ps ≡ extent_with h (csums_of (take h.count ps)) ∷ extents_of (drop h.count ps)

-- the lone page is the first of the pages' extents
pub record IsLonePage (ps : List (ℕ × Place)) (l : LonePage) : Type 0 where
  pub run : IsFirstRun ps (record { first = l.first; count = 1; start = OnUnit l.unit })
  pub csums : csums_of (take 1 ps) ≡ l.csum ∷ []
