-- Pages of an object read some at a time, each on the unit where it is found, and why they weren't.
use Rattle.std.specs.Prelude.{◌≡◌, ◌≢◌, ℕ, ◌+◌, ◌<◌, ◌≤◌, List, length, get_or, Option, Some, None, IsSome}
use Rattle.byte_maps.specs.Units.{unit_at, zeros, IsUnits}
use Rattle.unit_fields.specs.declared.width.Width.{Width}
use Rattle.crc32c_csum.specs.Prelude.{crc32c}
use Rattle.block_device.specs.Prelude.{Disk, HasRead, IsUntouched}
use Rattle.block_device.specs.declared.device.Failed.{Failed}
use Rattle.block_device.specs.declared.device.Failed.TheVariants as failed
use Rattle.meta_rows.specs.Prelude.{Rows}
use Rattle.store_image.specs.Prelude.{PageUnit}
use Rattle.read_facts.specs.declared.view.BadSum.{BadSum}
use Rattle.read_facts.specs.Prelude.{IsHeldAt, AreGoodPages, IsFirstBad}
use Rattle.write_buffers.specs.Prelude.{AreNotIn}
use Rattle.page_sources.specs.Found.{PagesByRows, unit_found, IsFoundOn, FindUnitsOf}
use Rattle.page_sources.specs.declared.parts.Run.{Run}
use Rattle.page_sources.specs.declared.parts.Run.TheVariants.{Hole, Units, InMemory}
use Rattle.page_sources.specs.declared.parts.PartFail.{PartFail}
use Rattle.page_sources.specs.declared.parts.PartFail.TheVariants as why

-- why pages weren't read, where the device says why
abbrev pub part_fail_of : Failed → PartFail
part_fail_of failed.Memory = why.Memory
part_fail_of failed.Fault = why.Fault

-- the units that pages stand on are few
abbrev pub HaveFewUnits : PagesByRows → Type 0
HaveFewUnits pages = (page : ℕ) (on : PageUnit) → unit_found pages page ≡ Some on → on.unit < 1048576

-- these pages can be read: each stands inside the device, on a unit that is in memory, whole, or in no flight
pub record CanRead (memory : ℕ → Option (List ℕ)) (d : Disk) (pages : PagesByRows) : Type 0 where
  pub units_most : d.units ≤ 1048576
  pub free : (page : ℕ) (on : PageUnit) → unit_found pages page ≡ Some on → memory on.unit ≡ None → IsUntouched d.flights on.unit
  pub inside : (page : ℕ) (on : PageUnit) → unit_found pages page ≡ Some on → on.unit < d.units
  pub whole : (unit : ℕ) (bytes : List ℕ) → memory unit ≡ Some bytes → length bytes ≡ 4096

-- the page stands on the unit
abbrev pub IsOnUnit : PagesByRows → ℕ → ℕ → Type 0
IsOnUnit pages page unit = (csum : ℕ) × IsFoundOn pages page unit csum

-- so many pages from the first on are holes
abbrev pub AreHoles : PagesByRows → ℕ → ℕ → Type 0
AreHoles pages first count = (i : ℕ) → i < count → unit_found pages (first + i) ≡ None

-- so many pages from the first on stand on consecutive units
abbrev pub AreOnUnits : PagesByRows → ℕ → ℕ → ℕ → Type 0
AreOnUnits pages first at count = (i : ℕ) → i < count → IsOnUnit pages (first + i) (at + i)

-- so they do, and these checksums are kept for them
abbrev pub AreKept : PagesByRows → ℕ → ℕ → ℕ → List ℕ → Type 0
AreKept pages first at count sums = (i : ℕ) → i < count → IsFoundOn pages (first + i) (at + i) (get_or sums i 0)

-- the checksums of so many pages that lie one behind the other
abbrev pub AreSums : ℕ → List ℕ → List ℕ → Type 0
AreSums count bytes sums = (i : ℕ) → i < count → get_or sums i 0 ≡ crc32c (unit_at i bytes)

-- the pages of a run, at least one and at most so many, and the checksums that they must have; or one page, whose unit is in memory
abbrev pub IsPageRun : (ℕ → Option (List ℕ)) → PagesByRows → ℕ → ℕ → List ℕ → Run → Type 0
IsPageRun memory pages first most sums (Hole count) = (0 < count) × (count ≤ most) × AreHoles pages first count
    × ((i : ℕ) → i < count → get_or sums i 0 ≡ crc32c (zeros 4096))
IsPageRun memory pages first most sums (Units at count) = (0 < count) × (count ≤ most) × AreKept pages first at count sums × AreNotIn memory at count
IsPageRun memory pages first most sums (InMemory unit) = IsOnUnit pages first unit × IsSome (memory unit)

-- a page that isn't a hole has bytes with the checksum that is kept for it
abbrev pub IsChecked : PagesByRows → ℕ → List ℕ → Type 0
IsChecked pages page bytes = (on : PageUnit) → unit_found pages page ≡ Some on → crc32c bytes ≡ on.csum

-- so has each of so many pages from the first on
abbrev pub AreChecked : PagesByRows → ℕ → ℕ → List ℕ → Type 0
AreChecked pages first count bytes = (i : ℕ) → i < count → IsChecked pages (first + i) (unit_at i bytes)

-- of units from `at` on that lie one behind the other, the first one whose bytes have another checksum than these
pub record IsMismatch (at count : ℕ) (bytes sums : List ℕ) (bad : BadSum) : Type 0 where
  pub index : ℕ
  pub within : index < count
  pub before : AreSums index bytes sums
  pub unit : bad.unit ≡ at + index
  pub is_kept : bad.kept ≡ get_or sums index 0
  pub is_found : bad.found ≡ crc32c (unit_at index bytes)
  pub differs : bad.found ≢ bad.kept

-- of each object whose pages are found so, so many pages from the first on are good, and these are their bytes
pub record GivesPages (memory : ℕ → Option (List ℕ)) (d : Disk) (pages : PagesByRows) (first count : ℕ) (bytes : List ℕ) : Type 0 where
  pub size : IsUnits count bytes
  pub good : (w : Width) (rows : Rows) (c o : List ℕ) → FindUnitsOf w rows c o pages
      → AreGoodPages w memory (IsHeldAt d) rows c o first count bytes

-- of each object whose pages are found so, it is the first bad page of so many
abbrev pub GivesBad : (ℕ → Option (List ℕ)) → Disk → PagesByRows → ℕ → ℕ → BadSum → Type 0
GivesBad memory d pages first count bad =
    (w : Width) (rows : Rows) (c o : List ℕ) → FindUnitsOf w rows c o pages
    → IsFirstBad w memory (IsHeldAt d) rows c o first count bad.unit bad.kept bad.found

-- one of so many pages from the first on stands on a unit that isn't in memory: the device has to be read for it
pub record HasPageToRead (memory : ℕ → Option (List ℕ)) (pages : PagesByRows) (first count : ℕ) : Type 0 where
  pub index : ℕ
  pub within : index < count
  pub unit : ℕ
  pub is_on : IsOnUnit pages (first + index) unit
  pub not_in_memory : memory unit ≡ None

-- what a failed read of so many pages says of them: the device fails only where it is read
abbrev pub IsPartFail : (ℕ → Option (List ℕ)) → Disk → PagesByRows → ℕ → ℕ → PartFail → Type 0
IsPartFail memory d pages first count (why.BadPage bad) = GivesBad memory d pages first count bad
IsPartFail memory d pages first count why.Fault = HasPageToRead memory pages first count
IsPartFail memory d pages first count why.Memory = Unit {0}

-- what a failed read of so many units says of them
abbrev pub IsUnitsFail : Disk → ℕ → ℕ → List ℕ → PartFail → Type 0
IsUnitsFail d at count sums (why.BadPage bad) = (bytes : List ℕ) × HasRead d at count bytes × IsMismatch at count bytes sums bad
IsUnitsFail d at count sums fail = Unit {0}
