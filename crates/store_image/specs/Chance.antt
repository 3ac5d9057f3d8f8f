-- The premise on chance: no torn record and no torn slot is valid by chance. A checksum can't rule this out, so the theorem asks for it.
use Rattle.std.specs.Prelude.{◌≡◌, ◌⊎◌, ℕ, ◌+◌, ◌-◌, ◌<◌, ◌≤◌, List, [], ◌∷◌, IsTrue}
use Rattle.byte_maps.specs.Units.{unit_at, units_from}
use Rattle.block_device.specs.Prelude.{last, is_dirty}
use Rattle.block_device.specs.declared.event.Event.{Event}
use Rattle.meta_rows.specs.declared.row_op.RowOp.{RowOp}
use Rattle.meta_log.specs.declared.slot.Super.{Super}
use Rattle.meta_log.specs.Prelude.{unit_count, BeginsWithRecords, active_half, IsValidSlot, IsActiveSlot, active_unit}

-- so many units, from one on, hold in the image what was last written there
abbrev pub HoldsAsWritten : List ℕ → List ℕ → ℕ → ℕ → Type 0
HoldsAsWritten image written first count = units_from first count image ≡ units_from first count written

-- each record, from this unit on, stands in the image as it was last written
abbrev pub AreAsWritten : List (List RowOp) → ℕ → ℕ → List ℕ → List ℕ → Type 0
AreAsWritten [] number unit image written = Unit {0}
AreAsWritten (ops ∷ more) number unit image written =
    HoldsAsWritten image written unit (unit_count number ops) × AreAsWritten more (number + 1) (unit + unit_count number ops) image written

-- another slot is valid too, and of no lower epoch
abbrev pub IsOutranked : List ℕ → ℕ → Super → Type 0
IsOutranked image at s = (other : Super) × IsValidSlot image (1 - at) other × (s.epoch ≤ other.epoch)

-- Each valid record of the active half, as far as they go without a gap, stands as it was last written; so does each valid
-- slot that isn't outranked.
pub record NoChanceMatch (start : List ℕ) (log : List Event) (image : List ℕ) : Type 0 where
  pub records : (s : Super) (recs : List (List RowOp)) → IsActiveSlot image s → BeginsWithRecords recs s.first (active_half image s)
      → AreAsWritten recs s.first (active_unit s) image (last start log)
  pub slots : (at : ℕ) (s : Super) → at < 2 → IsValidSlot image at s → IsOutranked image at s ⊎ (unit_at at image ≡ unit_at at (last start log))

-- The same asked of dirty units alone, as the model of disks has it: what is not dirty stands as it was last written anyway.

-- one of so many units is dirty
abbrev pub HasDirty : List Event → ℕ → ℕ → Type 0
HasDirty log first count = (unit : ℕ) × (first ≤ unit) × (unit < first + count) × IsTrue (is_dirty log unit)

abbrev pub TornAreAsWritten : List (List RowOp) → ℕ → ℕ → List Event → List ℕ → List ℕ → Type 0
TornAreAsWritten [] number unit log image written = Unit {0}
TornAreAsWritten (ops ∷ more) number unit log image written =
    (HasDirty log unit (unit_count number ops) → HoldsAsWritten image written unit (unit_count number ops))
    × TornAreAsWritten more (number + 1) (unit + unit_count number ops) log image written

pub record NoTornMatch (start : List ℕ) (log : List Event) (image : List ℕ) : Type 0 where
  pub records : (s : Super) (recs : List (List RowOp)) → IsActiveSlot image s → BeginsWithRecords recs s.first (active_half image s)
      → TornAreAsWritten recs s.first (active_unit s) log image (last start log)
  pub slots : (at : ℕ) (s : Super) → at < 2 → IsValidSlot image at s → IsTrue (is_dirty log at)
      → IsOutranked image at s ⊎ (unit_at at image ≡ unit_at at (last start log))
