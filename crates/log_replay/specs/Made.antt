-- What making a store makes, and why it fails.
use Rattle.std.specs.Prelude.{◌≡◌, ℕ, ◌<◌, ◌≤◌, List, IfSome}
use Rattle.std.specs.FinMap as map
use Rattle.block_device.specs.Prelude.{last, Disk, IsQuiet, Rose}
use Rattle.meta_log.specs.Prelude.{IsActiveSlot}
use Rattle.store_image.specs.Prelude.{StandsFor, IsExactImage}
use Rattle.log_replay.specs.Calls.{Told, StopsAtFault}
use Rattle.log_replay.specs.NewSuper.{new_super, units_needed}
use Rattle.log_replay.specs.Opening.{IsLogEmpty}
use Rattle.log_replay.specs.declared.making.MkfsFail.{MkfsFail}
use Rattle.log_replay.specs.declared.making.MkfsFail.TheVariants.{Memory, TooSmall, Fault}

-- The contents are those of a store without collections, its log is empty, and no unit is marked.
pub record IsEmptyStore (units half prefer : ℕ) (contents : List ℕ) : Type 0 where
  pub slot : IsActiveSlot contents (new_super units half prefer)
  pub empty : IsLogEmpty contents (new_super units half prefer)
  pub stands : StandsFor contents map.empty
  pub exact : IsExactImage contents

-- The device holds such a store, and nothing of it is dirty.
pub record HoldsEmptyStore (half prefer : ℕ) (d : Disk) : Type 0 where
  pub quiet : IsQuiet d
  pub store : IfSome d.history (λ h. IsEmptyStore d.units half prefer (last h.start h.log))

-- Why no store was made: the device has too few units, exactly then; else memory ran out, or the device failed.
abbrev pub FailsFor : MkfsFail → (units half before now : ℕ) → Type 0
FailsFor Memory units half before now = units_needed half ≤ units
FailsFor (TooSmall asked need) units half before now = (asked ≡ units) × (need ≡ units_needed half) × (units < need)
FailsFor Fault units half before now = (units_needed half ≤ units) × Rose before now

-- What a device is then: as it was, where it has too few units; and where a call failed, nothing was submitted after that. Want of memory may
-- come anywhere on the way.
abbrev pub LeavesDevice : MkfsFail → Disk → ℕ → Disk → ℕ → Type 0
LeavesDevice Memory given before d now = Unit {0}
LeavesDevice (TooSmall units need) given before d now = (d ≡ given) × (now ≡ before)
LeavesDevice Fault given before d now = Told StopsAtFault given.history d.history
