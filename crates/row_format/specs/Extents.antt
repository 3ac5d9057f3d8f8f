-- Extents: runs of an object's pages, and where they stand.
use Rattle.std.specs.Prelude.{◌≡◌, ℕ, ◌+◌, ◌-◌, ◌<◌, ◌≤◌, ◌^◌, nat_lt, nat_le, ◌&&◌, List, [], ◌∷◌, ◌++◌, length, Option, Some, None, if◌then◌else◌, slice_index}
use Rattle.std.specs.List.{flat_map, AllByRecursion}
use Rattle.std.specs.Int.{w16, w32, w64, to_le_bytes}
use Rattle.ordered_lists.specs.Lists.{Ascend}
use Rattle.unit_fields.specs.declared.width.Width.{Width}
use Rattle.row_format.specs.Csums.{csum_bytes, FitsCsum}

-- Where the pages of a run stand: on consecutive units of the object's own, from this one on, with one checksum for each page; or on so many
-- consecutive slots of a shared blob, from this one on.
pub data Body : Type 0 where
  private : (unit : ℕ) (csums : List ℕ) → Body
  shared : (sbid first count : ℕ) → Body

-- consecutive pages from `first` on
pub record Extent : Type 0 where
  pub first : ℕ
  pub body : Body

-- how many pages stand there
abbrev pub page_count : Body → ℕ
page_count (private unit csums) = length csums
page_count (shared sbid first count) = count

-- the page behind an extent's last
abbrev pub page_end : Extent → ℕ
page_end e = e.first + page_count e.body

-- the kind, and what it wants
abbrev pub body_bytes : Width → Body → List ℕ
body_bytes w (private unit csums) = 0 ∷ (to_le_bytes w32 unit ++ flat_map (csum_bytes w) csums)
body_bytes w (shared sbid first count) = 1 ∷ (to_le_bytes w64 sbid ++ to_le_bytes w16 first)

-- the one spelling of an extent, with checksums of this width: its first page, the number of its pages, and where they stand
abbrev pub extent_bytes : Width → Extent → List ℕ
extent_bytes w e = to_le_bytes w32 e.first ++ (to_le_bytes w16 (page_count e.body) ++ body_bytes w e.body)

-- 1 to 256 pages, and numbers that fit their fields
abbrev pub FitsBody : Width → Body → Type 0
FitsBody w (private unit csums) = (unit < 2 ^ 32) × (0 < length csums) × (length csums ≤ 256) × AllByRecursion (FitsCsum w) csums
FitsBody w (shared sbid first count) = (sbid < 2 ^ 64) × (first < 2 ^ 16) × (0 < count) × (count ≤ 256)

-- what has a spelling
pub record FitsExtent (w : Width) (e : Extent) : Type 0 where
  pub first : e.first < 2 ^ 32
  pub body : FitsBody w e.body

-- the extents ascend, and none reaches into the next
abbrev pub ExtentsAscend : List Extent → Type 0
ExtentsAscend es = Ascend (λ e later. page_end e ≤ later.first) es

-- the first extent begins at this page
abbrev pub BeginsAt : ℕ → List Extent → Type 0
BeginsAt page [] = ⊥
BeginsAt page (e ∷ es) = e.first ≡ page

-- Where a page stands: on a unit of the object's own, with the checksum that is kept for the page; or on a slot of a shared blob, whose row
-- keeps it.
pub data Place : Type 0 where
  own : (unit csum : ℕ) → Place
  slot : (sbid index : ℕ) → Place

-- the place of the page number i of those that stand there
abbrev pub place_in : Body → ℕ → Place
place_in (private unit csums) i = own (unit + i) (slice_index csums i)
place_in (shared sbid first count) i = slot sbid (first + i)

-- the place of a page, if one of the extents has it
abbrev pub place_of : List Extent → ℕ → Option Place
place_of [] page = None
place_of (e ∷ es) page = if nat_le e.first page && nat_lt page (page_end e)
    then Some (place_in e.body (page - e.first))
    else place_of es page

-- the pages stand on slots of this blob
abbrev pub NamesBlob : ℕ → Body → Type 0
NamesBlob sbid (private unit csums) = ⊥
NamesBlob sbid (shared other first count) = other ≡ sbid
