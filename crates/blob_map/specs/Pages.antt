-- The page map of an object.
use Rattle.std.specs.Prelude.{◌≡◌, ℕ, zero, suc, ◌+◌, ◌<◌, ◌≤◌, ◌^◌, List, [], ◌∷◌, length, map, refl}
use Rattle.std.specs.List.{range_with_len}
use Rattle.std.specs.Coded.{Coded, code_by, coded×, coded_ℕ}
use Rattle.std.specs.FinMap as finite
use Rattle.unit_fields.specs.declared.width.Width.{Width}
use Rattle.number_map.specs.NumberMap.{NumberMap}
use Rattle.row_format.specs.Prelude.{Extent, Body, private, shared, Place, own, slot, place_in, page_count, page_end, FitsCsum}

-- where each page stands that stands anywhere
abbrev pub PageMap : Type 0
PageMap = NumberMap Place

-- the numbers of a place, behind that of its kind
abbrev pub numbers_of : Place → ℕ × (ℕ × ℕ)
numbers_of (own unit csum) = (0, (unit, csum))
numbers_of (slot sbid index) = (1, (sbid, index))

abbrev pub place_by : ℕ × (ℕ × ℕ) → Place
place_by (zero, numbers) = own numbers.0 numbers.1
place_by (suc k, numbers) = slot numbers.0 numbers.1

-- they tell it
abbrev pub numbers_tell : (place : Place) → place_by (numbers_of place) ≡ place
numbers_tell (own unit csum) = refl
numbers_tell (slot sbid index) = refl

-- the code by which places are told apart
abbrev pub coded_place : Coded Place
coded_place = code_by (ℕ × (ℕ × ℕ)) (coded× coded_ℕ (coded× coded_ℕ coded_ℕ)) numbers_of place_by numbers_tell

-- the checksum that is kept of a place of the object's own
abbrev pub csum_of : Place → ℕ
csum_of (own unit csum) = csum
csum_of (slot sbid index) = 0

-- the pages of an extent, each with its place
abbrev pub extent_pages : Extent → List (ℕ × Place)
extent_pages e = map (λ i. (e.first + i, place_in e.body i)) (range_with_len 0 (page_count e.body))

-- a map after pages are put in their places, one after the other
abbrev pub with_pages : PageMap → List (ℕ × Place) → PageMap
with_pages pages [] = pages
with_pages pages (p ∷ ps) = with_pages (finite.insert pages p.0 p.1) ps

-- the units of a body have numbers below 2^32, or its slots below 2^16
abbrev pub AreNumbered : Body → Type 0
AreNumbered (private unit csums) = unit + length csums ≤ 2 ^ 32
AreNumbered (shared sbid first count) = (sbid < 2 ^ 64) × (first + count ≤ 2 ^ 16)

-- so have the pages of an extent, below 2^32
pub record HasNumbers (e : Extent) : Type 0 where
  pub pages : page_end e ≤ 2 ^ 32
  pub places : AreNumbered e.body

-- the units of a body of the object's own are in a range
abbrev pub IsBodyWithin : ℕ → ℕ → Body → Type 0
IsBodyWithin low high (private unit csums) = (low ≤ unit) × (unit + length csums ≤ high)
IsBodyWithin low high (shared sbid first count) = Unit {0}

-- a place whose numbers fit the fields of an extent
abbrev pub FitsPlace : Width → Place → Type 0
FitsPlace w (own unit csum) = (unit < 2 ^ 32) × FitsCsum w csum
FitsPlace w (slot sbid index) = (sbid < 2 ^ 64) × (index < 2 ^ 16)

-- so does a page with its place
pub record FitsPage (w : Width) (p : ℕ × Place) : Type 0 where
  pub page : p.0 < 2 ^ 32
  pub place : FitsPlace w p.1

-- a unit of the object's own is in this range
abbrev pub StandsWithin : ℕ → ℕ → Place → Type 0
StandsWithin low high (own unit csum) = (low ≤ unit) × (unit < high)
StandsWithin low high (slot sbid index) = Unit {0}
