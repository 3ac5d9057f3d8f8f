-- The units that making a store clears.
use Rattle.std.specs.Prelude.{◌≡◌, ◌≢◌, ◌⊎◌, ℕ, ◌+◌, ◌-◌, ◌<◌, ◌≤◌, List, length, slice_index, IfSome, All, Contains}
use Rattle.byte_maps.specs.Units.{unit_at, zeros}
use Rattle.block_device.specs.Prelude.{IsClean, Disk}
use Rattle.log_replay.specs.Zeroing.{IsZero}

-- Among the units below one: the slots are in the list, and so is each other unit that isn't zero, where nothing is dirty.
pub record AreStale (below : ℕ) (d : Disk) (units : List ℕ) : Type 0 where
  pub within : All (λ unit. unit < below) units
  pub many : length units ≤ below
  pub slot_0 : Contains units 0
  pub slot_1 : Contains units 1
  pub others : IfSome d.history (λ h. ((unit : ℕ) → IsClean h.log unit) → (unit : ℕ) → unit < below → ¬ Contains units unit → IsZero h unit)

-- the units ascend
abbrev pub UnitsAscend : List ℕ → Type 0
UnitsAscend units = (i j : ℕ) → i < j → j < length units → slice_index units i < slice_index units j

-- a unit of these bytes that isn't zero; the first is unit `at`
pub record IsNotZero (at count : ℕ) (bytes : List ℕ) (unit : ℕ) : Type 0 where
  pub from : at ≤ unit
  pub to : unit < at + count
  pub holds : unit_at (unit - at) bytes ≢ zeros 4096

-- The units of these bytes, the first of which is unit `at`, were looked at: those that aren't zero were added.
pub record AddsStale (at count : ℕ) (bytes old new : List ℕ) : Type 0 where
  pub within : All (λ unit. unit < at + count) new
  pub keeps : (unit : ℕ) → Contains old unit → Contains new unit
  pub adds : (k : ℕ) → k < count → ¬ Contains new (at + k) → unit_at k bytes ≡ zeros 4096
  pub only : (unit : ℕ) → Contains new unit → Contains old unit ⊎ IsNotZero at count bytes unit
  pub ascend : UnitsAscend old → UnitsAscend new
  pub many : length new ≤ length old + count

-- these are the units of the bytes that aren't zero, ascending
pub record AreNotZero (at count : ℕ) (bytes units : List ℕ) : Type 0 where
  pub each : (unit : ℕ) → Contains units unit → IsNotZero at count bytes unit
  pub others : (k : ℕ) → k < count → ¬ Contains units (at + k) → unit_at k bytes ≡ zeros 4096
  pub ascend : UnitsAscend units
  pub many : length units ≤ count
