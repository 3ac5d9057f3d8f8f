-- The units on which pages stand, compared one behind the other with the checksums that are kept for the pages.
use Rattle.std.specs.Prelude.{◌≡◌, ◌≢◌, ◌⊎◌, ℕ, zero, suc, ◌+◌, ◌<◌, ◌≤◌, List, [], ◌∷◌, ◌++◌, length, map}
use Rattle.std.specs.List.{flat_map, AllByRecursion}
use Rattle.byte_maps.specs.Units.{unit_at}
use Rattle.unit_fields.specs.declared.width.Width.{Width}
use Rattle.crc32c_csum.specs.Prelude.{crc32c}
use Rattle.meta_rows.specs.Prelude.{Rows}
use Rattle.row_format.specs.Prelude.{Body, private, shared, Extent, slot}
use Rattle.store_image.specs.Prelude.{PageUnit}
use Rattle.plan_rows.specs.Prelude.{page_unit}
use Rattle.row_format.specs.Row as format
use Rattle.row_reading.specs.Reading.{SpellsRow}
use Rattle.findings.specs.declared.finding.Finding.{Finding}
use Rattle.findings.specs.declared.finding.Finding.TheVariants.{BadSum}
use Rattle.findings.specs.Findings.{PageSum, AreBadSums, bad_sum}

-- the unit of a page, and the checksum that is kept for it
abbrev pub UnitSum : Type 0
UnitSum = ℕ × ℕ

-- consecutive units with these checksums
abbrev pub unit_sums_from : ℕ → List ℕ → List UnitSum
unit_sums_from unit [] = []
unit_sums_from unit (csum ∷ csums) = (unit, csum) ∷ unit_sums_from (unit + 1) csums

-- the unit of a place, and its checksum
abbrev pub sum_at : PageUnit → UnitSum
sum_at on = (on.unit, on.csum)

-- so many consecutive slots of a blob, as its row says them
abbrev pub slot_sums : Width → Rows → ℕ → ℕ → ℕ → List UnitSum
slot_sums w rows sbid index zero = []
slot_sums w rows sbid index (suc n) = sum_at (page_unit w rows (slot sbid index)) ∷ slot_sums w rows sbid (index + 1) n

abbrev pub body_places : Width → Rows → Body → List UnitSum
body_places w rows (private unit csums) = unit_sums_from unit csums
body_places w rows (shared sbid first count) = slot_sums w rows sbid first count

abbrev pub extent_places : Width → Rows → Extent → List UnitSum
extent_places w rows e = body_places w rows e.body

abbrev pub shard_places : Width → Rows → List Extent → List UnitSum
shard_places w rows es = flat_map (extent_places w rows) es

-- the places of a row, if it is a shard
abbrev pub row_places : Width → Rows → format.Row → List UnitSum
row_places w rows row = shard_places w rows (format.shard_in row).extents

-- the units of these pages are below this one
abbrev pub BodyInside : Width → Rows → ℕ → Body → Type 0
BodyInside w rows units (private unit csums) = unit + length csums ≤ units
BodyInside w rows units (shared sbid first count) =
    (first + count ≤ 65536) × ((i : ℕ) → i < count → (page_unit w rows (slot sbid (first + i))).unit < units)

abbrev pub AllInside : Width → Rows → ℕ → List Extent → Type 0
AllInside w rows units es = AllByRecursion (λ e. BodyInside w rows units e.body) es

-- a key and a value spell a row, and its units are below this one
pub record SpellsInside (w : Width) (rows : Rows) (key value : List ℕ) (units : ℕ) : Type 0 where
  pub row : format.Row
  pub spells : SpellsRow w key value row
  pub inside : AllInside w rows units (format.shard_in row).extents

-- the unit holds bytes with the checksum
abbrev pub HasSum : (ℕ → List ℕ → Type 0) → UnitSum → Type 0
HasSum held p = (bytes : List ℕ) × (held p.0 bytes × (crc32c bytes ≡ p.1))

-- it holds bytes with another one
pub record HasOther (held : ℕ → List ℕ → Type 0) (p : UnitSum) (found : ℕ) : Type 0 where
  pub bytes : List ℕ
  pub size : length bytes ≡ 4096
  pub holds : held p.0 bytes
  pub is_found : found ≡ crc32c bytes
  pub differs : found ≢ p.1

-- a finding for each of these units that holds bytes with another checksum, in their order; each other one holds bytes with its own
abbrev pub FindsBadSums : (ℕ → List ℕ → Type 0) → List UnitSum → List Finding → Type 0
FindsBadSums held [] out = out ≡ []
FindsBadSums held (p ∷ ps) out = (HasSum held p × FindsBadSums held ps out)
    ⊎ ((found : ℕ) × (rest : List Finding) × (out ≡ BadSum p.0 p.1 found ∷ rest) × HasOther held p found × FindsBadSums held ps rest)

-- these were added to others
abbrev pub AddsSums : (ℕ → List ℕ → Type 0) → List UnitSum → List Finding → List Finding → Type 0
AddsSums held places old new = (out : List Finding) × (new ≡ old ++ out) × FindsBadSums held places out

-- so were those of the row that a key and a value spell
abbrev pub AddsRowSums : Width → Rows → (ℕ → List ℕ → Type 0) → List ℕ → List ℕ → List Finding → List Finding → Type 0
AddsRowSums w rows held key value old new = (row : format.Row) → SpellsRow w key value row → AddsSums held (row_places w rows row) old new

-- so many units from one on hold these bytes, one behind the other
abbrev pub IsUnitIn : ℕ → ℕ → List ℕ → ℕ → List ℕ → Type 0
IsUnitIn at count bytes unit b = (i : ℕ) × (i < count) × (unit ≡ at + i) × (b ≡ unit_at i bytes) × (length b ≡ 4096)

-- these are the findings of bad pages
abbrev pub FindsSums : Width → (ℕ → List ℕ → Type 0) → Rows → List Finding → Type 0
FindsSums w held rows found = (pages : List PageSum) × AreBadSums w held rows pages × (found ≡ map bad_sum pages)
