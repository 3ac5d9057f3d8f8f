-- The findings of a store: all that is wrong with it, in one order.
use Rattle.std.specs.Prelude.{◌≡◌, ◌≢◌, ◌⊎◌, ℕ, ◌<◌, ◌^◌, List, ◌++◌, length, map}
use Rattle.std.specs.List.{AllByRecursion}
use Rattle.std.specs.declared.cmp.Ordering.TheVariants.{Less}
use Rattle.byte_maps.specs.ByteMap.{byte_order}
use Rattle.unit_fields.specs.declared.width.Width.{Width}
use Rattle.meta_rows.specs.Prelude.{Rows}
use Rattle.meta_log.specs.declared.slot.Super.{Super}
use Rattle.meta_log.specs.Prelude.{width_of}
use Rattle.row_format.specs.Prelude.{Slot}
use Rattle.ordered_lists.specs.Lists.{IsIn, Ascend, ListsAll}
use Rattle.store_image.specs.Prelude.{PageUnit, IsPageOn, IsBadRow, NoBadRow, IsOwned, IsMarked, IsLeaked, HasSoleOwner, HasSlot, IsCounted}
use Rattle.read_facts.specs.Prelude.{no_memory, IsRead, IsBadPage}
use Rattle.findings.specs.declared.finding.Finding.{Finding}
use Rattle.findings.specs.declared.finding.Finding.TheVariants.{BadRow, BadSum, Leaked, Unmarked, Doubled, WrongCount}

-- ---- pages

-- the bytes that a unit is seen to hold, of those that units hold: its own (those of a deferred row that names it are to stand before them)
abbrev pub sees : (ℕ → List ℕ → Type 0) → Rows → ℕ → List ℕ → Type 0
sees held rows unit bytes = held unit bytes

-- a page, its unit, the checksum that is kept for it, and that of the bytes that the unit holds
pub record PageSum : Type 0 where
  pub coll : List ℕ
  pub object : List ℕ
  pub page : ℕ
  pub unit : ℕ
  pub kept : ℕ
  pub found : ℕ

-- by collection, by object, by page
abbrev pub ComesBefore : PageSum → PageSum → Type 0
ComesBefore a b = (byte_order a.coll b.coll ≡ Less)
    ⊎ ((a.coll ≡ b.coll) × ((byte_order a.object b.object ≡ Less) ⊎ ((a.object ≡ b.object) × (a.page < b.page))))

-- the page is bad, by what its unit is seen to hold
abbrev pub IsBadSum : Width → (ℕ → List ℕ → Type 0) → Rows → PageSum → Type 0
IsBadSum w held rows p = IsBadPage w no_memory (sees held rows) rows p.coll p.object p.page p.unit p.kept p.found

-- it is one of these
abbrev pub IsAmong : List PageSum → List ℕ → List ℕ → ℕ → Type 0
IsAmong pages c o page = (p : PageSum) × (IsIn p pages × (p.coll ≡ c) × (p.object ≡ o) × (p.page ≡ page))

-- the unit gives bytes with the checksum that is kept for the page
abbrev pub GivesKept : (ℕ → List ℕ → Type 0) → Rows → PageUnit → Type 0
GivesKept held rows on = (bytes : List ℕ) × IsRead no_memory (sees held rows) on bytes

-- These are bad pages in their order, and of each other page that stands on a unit the unit gives bytes with the checksum that is kept.
pub record AreBadSums (w : Width) (held : ℕ → List ℕ → Type 0) (rows : Rows) (pages : List PageSum) : Type 0 where
  pub ascend : Ascend ComesBefore pages
  pub bad : AllByRecursion (IsBadSum w held rows) pages
  pub others : (c o : List ℕ) (page : ℕ) (on : PageUnit) → IsPageOn w rows c o page on → IsAmong pages c o page ⊎ GivesKept held rows on

-- ---- units

abbrev pub IsUnmarked : Width → Rows → ℕ → Type 0
IsUnmarked w rows unit = IsOwned w rows unit × ¬ IsMarked rows unit

abbrev pub IsDoubled : Width → Rows → ℕ → Type 0
IsDoubled w rows unit = ¬ HasSoleOwner w rows unit

-- exactly those units of which something holds, ascending
abbrev pub AreUnits : (ℕ → Type 0) → List ℕ → Type 0
AreUnits P units = ListsAll (λ a b. a < b) P units

-- a slot of a blob, its unit, the count that its blob's row keeps, and how many pages name it
pub record SlotCount : Type 0 where
  pub unit : ℕ
  pub sbid : ℕ
  pub index : ℕ
  pub kept : ℕ
  pub counted : ℕ

-- by unit, by blob
abbrev pub SlotBefore : SlotCount → SlotCount → Type 0
SlotBefore a b = (a.unit < b.unit) ⊎ ((a.unit ≡ b.unit) × (a.sbid < b.sbid))

-- the count is wrong
pub record IsWrongCount (w : Width) (rows : Rows) (x : SlotCount) : Type 0 where
  pub is : Slot
  pub has_slot : HasSlot w rows x.sbid x.index x.unit is
  pub is_kept : x.kept ≡ is.count
  pub is_counted : IsCounted w rows x.sbid x.index x.counted
  pub differs : x.counted ≢ is.count

-- the slot is one of these
abbrev pub IsSlotAmong : List SlotCount → ℕ → ℕ → Type 0
IsSlotAmong slots sbid index = (x : SlotCount) × (IsIn x slots × ((x.sbid ≡ sbid) × (x.index ≡ index)))

-- what is wrong with units, and with the counts of slots
pub record UnitLists : Type 0 where
  pub leaked : List ℕ
  pub unmarked : List ℕ
  pub doubled : List ℕ
  pub counts : List SlotCount

-- a unit is told as one without a mark, with two owners, or with a wrong count
abbrev pub IsTold : UnitLists → ℕ → Type 0
IsTold units unit = IsIn unit units.unmarked ⊎ (IsIn unit units.doubled ⊎ IsIn unit (map (λ (x : SlotCount). x.unit) units.counts))

-- Those that are marked and that nobody owns, those that have an owner and aren't marked, those that have two owners or more, and the slots with
-- wrong counts. Each other unit that is marked has an owner, and each other slot's count is right.
pub record AreWrongUnits (w : Width) (rows : Rows) (units : UnitLists) : Type 0 where
  pub are_leaked : AreUnits (IsLeaked w rows) units.leaked
  pub are_unmarked : AreUnits (IsUnmarked w rows) units.unmarked
  pub are_doubled : AreUnits (IsDoubled w rows) units.doubled
  pub are_counts : ListsAll SlotBefore (IsWrongCount w rows) units.counts
  pub others : (unit : ℕ) → unit < 2 ^ 32 → IsMarked rows unit → IsIn unit units.leaked ⊎ IsOwned w rows unit
  pub right : (sbid index unit : ℕ) (is : Slot) → HasSlot w rows sbid index unit is
      → IsSlotAmong units.counts sbid index ⊎ IsCounted w rows sbid index is.count

-- ---- all findings

abbrev pub bad_sum : PageSum → Finding
bad_sum p = BadSum p.unit p.kept p.found

abbrev pub wrong_count : SlotCount → Finding
wrong_count x = WrongCount x.unit x.kept x.counted

-- what is found where no row is bad
abbrev pub found_in : List PageSum → UnitLists → List Finding
found_in pages units = map bad_sum pages
    ++ (map Leaked units.leaked ++ (map Unmarked units.unmarked ++ (map Doubled units.doubled ++ map wrong_count units.counts)))

-- there are bad rows: these are their keys, in their order
pub record FindsBadRows (s : Super) (rows : Rows) (found : List Finding) : Type 0 where
  pub keys : List (List ℕ)
  pub are : ListsAll (λ a b. byte_order a b ≡ Less) (IsBadRow s rows) keys
  pub some : 0 < length keys
  pub is : found ≡ map BadRow keys

-- there is none
pub record FindsNoBadRow (s : Super) (held : ℕ → List ℕ → Type 0) (rows : Rows) (found : List Finding) : Type 0 where
  pub good : NoBadRow s rows
  pub pages : List PageSum
  pub are_pages : AreBadSums (width_of s) held rows pages
  pub units : UnitLists
  pub are_units : AreWrongUnits (width_of s) rows units
  pub is : found ≡ found_in pages units

-- the findings of rows, and of units that hold these bytes
abbrev pub AreFindings : Super → (ℕ → List ℕ → Type 0) → Rows → List Finding → Type 0
AreFindings s held rows found = FindsBadRows s rows found ⊎ FindsNoBadRow s held rows found
