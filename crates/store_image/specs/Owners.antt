-- Who owns a unit, and whether the freelist's bitmap says so.
use Rattle.std.specs.Prelude.{◌≡◌, ◌≢◌, ◌↔◌, ◌⊎◌, ℕ, ◌^◌, ◌<◌, ◌≤◌, List, [], ◌∷◌, length, Contains, Any}
use Rattle.unit_fields.specs.declared.width.Width.{Width}
use Rattle.meta_rows.specs.Prelude.{Rows, row}
use Rattle.meta_log.specs.declared.slot.Super.{Super}
use Rattle.meta_log.specs.Prelude.{data_unit}
use Rattle.row_format.specs.Prelude.{bitmap_key, bit_row, bit_in, own, slot, Slot}
use Rattle.store_image.specs.Pages.{IsPageAt, HasSlot}

-- what may own a unit: a page of an object, that stands on a unit of the object's own, or a slot of a shared blob that pages name
pub data Owner : Type 0 where
  page_of : (c o : List ℕ) (page : ℕ) → Owner
  slot_of : (sbid index : ℕ) → Owner

abbrev pub Owns : Width → Rows → Owner → ℕ → Type 0
Owns w rows (page_of c o page) unit = (csum : ℕ) × IsPageAt w rows c o page (own unit csum)
Owns w rows (slot_of sbid index) unit = (is : Slot) × (HasSlot w rows sbid index unit is × (0 < is.count))

-- the unit has an owner
abbrev pub IsOwned : Width → Rows → ℕ → Type 0
IsOwned w rows unit = (owner : Owner) × Owns w rows owner unit

-- the unit hasn't two owners
abbrev pub HasSoleOwner : Width → Rows → ℕ → Type 0
HasSoleOwner w rows unit = (a b : Owner) → Owns w rows a unit → Owns w rows b unit → a ≡ b

-- ---- counts

-- a page, by the names of its collection and its object
pub record PageName : Type 0 where
  pub coll : List ℕ
  pub object : List ℕ
  pub page : ℕ

-- the page names the slot: it stands there
abbrev pub Names : Width → Rows → ℕ → ℕ → PageName → Type 0
Names w rows sbid index p = IsPageAt w rows p.coll p.object p.page (slot sbid index)

-- none stands twice in the list
abbrev pub EachOnce : List PageName → Type 0
EachOnce [] = Unit {0}
EachOnce (p ∷ ps) = (¬ Contains ps p) × EachOnce ps

-- these are the pages that name the slot, each once
pub record AreNamers (w : Width) (rows : Rows) (sbid index : ℕ) (pages : List PageName) : Type 0 where
  pub each : (p : PageName) → Contains pages p ↔ Names w rows sbid index p
  pub once : EachOnce pages

-- so many pages name the slot
pub record IsCounted (w : Width) (rows : Rows) (sbid index count : ℕ) : Type 0 where
  pub pages : List PageName
  pub namers : AreNamers w rows sbid index pages
  pub count_is : length pages ≡ count

-- the count of each slot is the number of pages that name it
abbrev pub CountsAreExact : Width → Rows → Type 0
CountsAreExact w rows = (sbid index unit : ℕ) (is : Slot) → HasSlot w rows sbid index unit is → IsCounted w rows sbid index is.count

-- a slot at the unit has a count that isn't the number of pages that name it
pub record HasWrongCount (w : Width) (rows : Rows) (unit : ℕ) : Type 0 where
  pub sbid : ℕ
  pub index : ℕ
  pub is : Slot
  pub has_slot : HasSlot w rows sbid index unit is
  pub counted : ℕ
  pub is_counted : IsCounted w rows sbid index counted
  pub differs : counted ≢ is.count

-- ---- the bitmap

-- the unit is a data unit: none of the slots' or the log's
abbrev pub IsDataUnit : Super → ℕ → Type 0
IsDataUnit s unit = (data_unit s ≤ unit) × (unit < s.units)

-- the unit's bit
abbrev pub bit_of : Rows → ℕ → ℕ
bit_of rows unit = bit_in (row rows (bitmap_key (bit_row unit))) unit

abbrev pub IsMarked : Rows → ℕ → Type 0
IsMarked rows unit = bit_of rows unit ≡ 1

-- the unit is marked, and nobody owns it (units have numbers below 2 ^ 32)
pub record IsLeaked (w : Width) (rows : Rows) (unit : ℕ) : Type 0 where
  pub is_unit : unit < 2 ^ 32
  pub marked : IsMarked rows unit
  pub unowned : ¬ IsOwned w rows unit

-- The bitmap is exactly the owned units and some of these leaked ones, which nobody owns; no unit has two owners; and each slot's count is the number of
-- pages that name it.
pub record IsExactBut (w : Width) (leaked : ℕ → Type 0) (rows : Rows) : Type 0 where
  pub marked : (unit : ℕ) → unit < 2 ^ 32 → IsMarked rows unit → IsOwned w rows unit ⊎ (leaked unit × ¬ IsOwned w rows unit)
  pub owned_marked : (unit : ℕ) → IsOwned w rows unit → IsMarked rows unit
  pub one_owner : (unit : ℕ) → HasSoleOwner w rows unit
  pub counts : CountsAreExact w rows

-- the bitmap is exactly the owned units
abbrev pub IsExact : Width → Rows → Type 0
IsExact w rows = IsExactBut w (λ unit. ⊥) rows

-- the bitmap is exactly the owned units and some of those that the first rows had leaked
abbrev pub IsExactAs : Width → Rows → Rows → Type 0
IsExactAs w first rows = IsExactBut w (IsLeaked w first) rows

-- The unit is what a store may not have: it has an owner and isn't marked, or it has two owners, or is that of a slot with a wrong count.
abbrev pub IsInexact : Width → Rows → ℕ → Type 0
IsInexact w rows unit = (IsOwned w rows unit × ¬ IsMarked rows unit) ⊎ ((¬ HasSoleOwner w rows unit) ⊎ HasWrongCount w rows unit)

-- and it is the least such unit
pub record IsLeastInexact (w : Width) (rows : Rows) (unit : ℕ) : Type 0 where
  pub inexact : IsInexact w rows unit
  pub least : (other : ℕ) → other < unit → ¬ IsInexact w rows other

-- A unit that can't be taken now: its bit is 1 in the committed rows, or it is allotted to a transaction that isn't committed.
abbrev pub IsBusy : Rows → List (List ℕ) → ℕ → Type 0
IsBusy committed allotted unit = IsMarked committed unit ⊎ Any (λ units. Contains units unit) allotted
