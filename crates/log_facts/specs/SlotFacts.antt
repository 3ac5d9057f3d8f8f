-- What is known of the two superblock slots while none is being written.
use Rattle.std.specs.Prelude.{◌≡◌, ℕ, ◌%◌, ◌<◌, List}
use Rattle.block_device.specs.Prelude.{History, SurelyHolds}
use Rattle.meta_log.specs.declared.slot.Super.{Super}
use Rattle.meta_log.specs.Prelude.{super_bytes, IsSuper, IsSlotOf, other_slot}

-- the unit is no valid slot of the same device that is as new as this super
abbrev pub IsOlderSlot : Super → List ℕ → Type 0
IsOlderSlot s unit = (other : Super) → IsSlotOf (other_slot s) unit other → other.units ≡ s.units → other.epoch < s.epoch

-- The slot in use surely holds the super, and the other one surely holds none as new.
pub record SlotsStand (h : History) (s : Super) : Type 0 where
  pub limits : IsSuper s
  pub active : SurelyHolds h (s.epoch % 2) (λ unit. unit ≡ super_bytes s)
  pub other : SurelyHolds h (other_slot s) (IsOlderSlot s)
