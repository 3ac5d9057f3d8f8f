-- Pages of an object become slots of a new blob.
use Rattle.std.specs.Prelude.{◌≡◌, ◌≢◌, ◌↔◌, ℕ, ◌+◌, ◌<◌, ◌≤◌, List}
use Rattle.unit_fields.specs.declared.width.Width.{Width}
use Rattle.meta_rows.specs.Prelude.{Rows}
use Rattle.row_format.specs.Prelude.{Place, own, slot, Slot}
use Rattle.store_image.specs.Pages.{IsPageAt, HasSlot}
use Rattle.store_image.specs.Owners.{PageName, Names, bit_of}

-- the page is one of so many of the object from the first on
pub record IsOneOf (c o : List ℕ) (from count : ℕ) (d u : List ℕ) (page : ℕ) : Type 0 where
  pub coll : d ≡ c
  pub object : u ≡ o
  pub low : from ≤ page
  pub high : page < from + count

-- So many pages of the object, which stood on consecutive units of its own, stand on the slots of a new blob on these units, each named once.
-- All other pages, blobs and bits are as they were.
pub record BecomeSlots (w : Width) (rows later : Rows) (c o : List ℕ) (from unit count sbid : ℕ) : Type 0 where
  pub one_place : (d u : List ℕ) (page : ℕ) (a b : Place) → IsPageAt w rows d u page a → IsPageAt w rows d u page b → a ≡ b
  pub no_blob : (index at : ℕ) (x : Slot) → ¬ HasSlot w rows sbid index at x
  pub no_page : (p : PageName) (index : ℕ) → ¬ Names w rows sbid index p
  pub was : (i : ℕ) → i < count → (csum : ℕ) × IsPageAt w rows c o (from + i) (own (unit + i) csum)
  pub now : (i : ℕ) (place : Place) → i < count → IsPageAt w later c o (from + i) place ↔ (place ≡ slot sbid i)
  pub others : (d u : List ℕ) (page : ℕ) (place : Place) → ¬ IsOneOf c o from count d u page →
      IsPageAt w later d u page place ↔ IsPageAt w rows d u page place
  pub slots : (index at : ℕ) (x : Slot) → HasSlot w later sbid index at x → (index < count) × (at ≡ unit + index) × (x.count ≡ 1)
  pub each : (i : ℕ) → i < count → (x : Slot) × HasSlot w later sbid i (unit + i) x
  pub blobs : (other index at : ℕ) (x : Slot) → other ≢ sbid → HasSlot w later other index at x ↔ HasSlot w rows other index at x
  pub bits : (v : ℕ) → bit_of later v ≡ bit_of rows v
