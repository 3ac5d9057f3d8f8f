-- The pages of an object, each on the unit where its place is by the rows.
use Rattle.std.specs.Prelude.{◌≡◌, ◌↔◌, ℕ, List, Option, Some, None}
use Rattle.std.specs.Option.{option_map}
use Rattle.std.specs.FinMap as map
use Rattle.unit_fields.specs.declared.width.Width.{Width}
use Rattle.meta_rows.specs.Prelude.{Rows}
use Rattle.row_format.specs.Prelude.{Extent, shared_key}
use Rattle.store_image.specs.Prelude.{PageUnit, IsPageOn}
use Rattle.plan_rows.specs.Prelude.{page_unit}
use Rattle.page_lookup.specs.Prelude.{place_found}

-- a unit, and the checksum that is kept for a page there
abbrev pub unit_with : ℕ → ℕ → PageUnit
unit_with unit csum = record { unit = unit; csum = csum }

-- the extents of an object, and the rows that say where slots are, with checksums of this width
pub record PagesByRows : Type 0 where
  pub width : Width
  pub rows : Rows
  pub extents : List Extent

-- the unit that a page stands on, and the checksum that is kept for it, or that it is a hole
abbrev pub unit_found : PagesByRows → ℕ → Option PageUnit
unit_found pages page = option_map (page_unit pages.width pages.rows) (place_found pages.extents page)

-- it is this unit, with this checksum
abbrev pub IsFoundOn : PagesByRows → ℕ → ℕ → ℕ → Type 0
IsFoundOn pages page unit csum = unit_found pages page ≡ Some (unit_with unit csum)

-- the object's pages are found on these units, and no others
abbrev pub FindUnitsOf : Width → Rows → List ℕ → List ℕ → PagesByRows → Type 0
FindUnitsOf w rows c o pages = (page : ℕ) (on : PageUnit) → (unit_found pages page ≡ Some on) ↔ IsPageOn w rows c o page on

-- the bytes, if there are some, are the value of the blob's row
abbrev pub IsRowOfBlob : Rows → ℕ → Option (List ℕ) → Type 0
IsRowOfBlob rows sbid None = Unit {0}
IsRowOfBlob rows sbid (Some value) = map.get rows (shared_key sbid) ≡ Some value
