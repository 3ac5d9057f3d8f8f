-- Whether the bitmap of an image says which units its objects own.
use Rattle.std.specs.Prelude.{ℕ, List}
use Rattle.meta_rows.specs.Prelude.{Rows}
use Rattle.meta_log.specs.declared.slot.Super.{Super}
use Rattle.meta_log.specs.Prelude.{AreRowsOf, IsActiveSlot, width_of}
use Rattle.store_image.specs.Owners.{IsLeaked, IsExactBut}

-- the image's bitmap is exactly its objects' units and some of these leaked ones, which nobody owns; no unit has two owners
pub record IsExactImageBut (leaked : ℕ → Type 0) (image : List ℕ) : Type 0 where
  pub super : Super
  pub active : IsActiveSlot image super
  pub rows : Rows
  pub read : AreRowsOf image super rows
  pub exact : IsExactBut (width_of super) leaked rows

-- the image's bitmap is exactly its objects' units, and no unit has two owners
abbrev pub IsExactImage : List ℕ → Type 0
IsExactImage image = IsExactImageBut (λ unit. ⊥) image

-- the image has marked the unit, and nobody owns it
pub record IsLeakedIn (image : List ℕ) (unit : ℕ) : Type 0 where
  pub super : Super
  pub active : IsActiveSlot image super
  pub rows : Rows
  pub read : AreRowsOf image super rows
  pub leaked : IsLeaked (width_of super) rows unit

-- No unit is leaked in the second image but such as were in the first one (some may be so no more); else its bitmap is exact, if the first
-- one's was. (A store that has leaked none before has none then.)
abbrev pub StaysExact : List ℕ → List ℕ → Type 0
StaysExact before image = IsExactImageBut (IsLeakedIn before) before → IsExactImageBut (IsLeakedIn before) image
