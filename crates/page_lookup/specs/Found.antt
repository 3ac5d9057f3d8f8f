-- The place of a page, looked for among extents in their order.
use Rattle.std.specs.Prelude.{◌≡◌, ◌↔◌, ℕ, ◌-◌, ◌<◌, ◌≤◌, ◌^◌, nat_lt, List, [], ◌∷◌, ◌++◌, Option, Some, None, if◌then◌else◌}
use Rattle.std.specs.List.{AllByRecursion}
use Rattle.unit_fields.specs.declared.width.Width.{Width}
use Rattle.meta_rows.specs.Prelude.{Rows}
use Rattle.row_format.specs.Prelude.{Extent, Place, own, slot, place_in, page_end}
use Rattle.store_image.specs.Prelude.{IsPageAt}

-- the place of a page, looked for no further than to the first extent that begins behind it; of extents that ascend it is the place
abbrev pub place_found : List Extent → ℕ → Option Place
place_found [] page = None
place_found (e ∷ es) page = if nat_lt page e.first
    then None
    else if nat_lt page (page_end e) then Some (place_in e.body (page - e.first)) else place_found es page

-- the first of the extents, if there is one, ends behind the page
abbrev pub EndBehind : ℕ → List Extent → Type 0
EndBehind page [] = Unit {0}
EndBehind page (e ∷ es) = page < page_end e

-- extents at the front are left out, each of which ends in front of the page
pub record LeavesOut (page : ℕ) (old new : List Extent) : Type 0 where
  pub front : List Extent
  pub is : old ≡ front ++ new
  pub ends : AllByRecursion (λ e. page_end e ≤ page) front

-- the first of the extents is there, and begins with the page or before it
abbrev pub BeginsBy : ℕ → List Extent → Type 0
BeginsBy page [] = ⊥
BeginsBy page (e ∷ es) = e.first ≤ page

-- the number of its unit or of its slot fits its field
abbrev pub IsNumbered : Place → Type 0
IsNumbered (own unit csum) = unit < 2 ^ 32
IsNumbered (slot sbid index) = index < 2 ^ 16

-- so does that of the page's place, if it is found
abbrev pub HasNumber : List Extent → ℕ → Type 0
HasNumber es page = (place : Place) → place_found es page ≡ Some place → IsNumbered place

-- the object's pages are found among these extents, each in its place, and no others
abbrev pub FindPagesOf : Width → Rows → List ℕ → List ℕ → List Extent → Type 0
FindPagesOf w rows c o es = (page : ℕ) (place : Place) → (place_found es page ≡ Some place) ↔ IsPageAt w rows c o page place
