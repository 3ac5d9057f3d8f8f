-- What the image of a crash holds, unit by unit, for each way in which dirty units can be torn.
use Rattle.std.specs.Prelude.{◌≡◌, ℕ, ◌+◌, ◌-◌, ◌*◌, ◌%◌, ◌==◌, ◌≤◌, nat_lt, if◌then◌else◌, List, [], ◌∷◌, Bool, true, ◌&&◌, ◌||◌, length, replicate, slice_get, Some}
use Rattle.byte_maps.specs.Units.{unit_at, IsUnits}
use Rattle.block_device.specs.Tests.{covers, is_stable, first_unstable, is_dirty}
use Rattle.block_device.specs.declared.event.Event.{Event}
use Rattle.block_device.specs.declared.event.Event.TheVariants.{Write, Flush, Done}
use Rattle.block_device.specs.declared.image.Tear.{Tear}
use Rattle.block_device.specs.declared.image.Tear.TheVariants.{Old, New, First, Odd, Noise}

-- 4096 bytes A5
unfoldable pub noise : List ℕ
noise = replicate 4096 0xA5

-- whether unit j of the write at a place reaches the disk, where it is unit k of the device
abbrev pub reaches : Tear → List Event → ℕ → ℕ → ℕ → Bool
reaches Old log k place j = nat_lt place (first_unstable log k)
reaches New log k place j = true
reaches First log k place j = is_stable log place || (j == 0)
reaches Odd log k place j = is_stable log place || (j % 2 == 1)
reaches Noise log k place j = nat_lt place (first_unstable log k)

-- what unit k holds after an event, where it held these bytes, if just these units of a write reach the disk
abbrev pub held_after_event : (ℕ → Bool) → ℕ → List ℕ → Event → List ℕ
held_after_event reached k held (Write at bytes) = (if covers at bytes k && reached (k - at) then unit_at (k - at) bytes else held)
held_after_event reached k held Flush = held
held_after_event reached k held (Done ticket ok) = held

-- what it holds after the events from place n on
abbrev pub held_from : (ℕ → ℕ → Bool) → ℕ → ℕ → List ℕ → List Event → List ℕ
held_from reached k n held [] = held
held_from reached k n held (event ∷ log) = held_from reached k (n + 1) (held_after_event (reached n) k held event) log

-- unit k without noise: what the writes leave that reach it, in order
abbrev pub landed_unit : Tear → List ℕ → List Event → ℕ → List ℕ
landed_unit tear start log k = held_from (reaches tear log k) k 0 (unit_at k start) log

-- unit k of the image: a dirty one is filled with A5 under noise
abbrev pub torn_unit : Tear → List ℕ → List Event → ℕ → List ℕ
torn_unit Old start log k = landed_unit Old start log k
torn_unit New start log k = landed_unit New start log k
torn_unit First start log k = landed_unit First start log k
torn_unit Odd start log k = landed_unit Odd start log k
torn_unit Noise start log k = (if is_dirty log k then noise else landed_unit Noise start log k)

-- the image of a tear, unit by unit
pub record IsTornImage (tear : Tear) (start : List ℕ) (log : List Event) (image : List ℕ) : Type 0 where
  pub size : length image ≡ length start
  pub units : (k : ℕ) → 4096 * k + 4096 ≤ length start → unit_at k image ≡ torn_unit tear start log k

-- the event is whole units inside a device of this length
abbrev pub IsWholeEvent : ℕ → Event → Type 0
IsWholeEvent size (Write at bytes) = (4096 * at + length bytes ≤ size) × (count : ℕ) × IsUnits count bytes
IsWholeEvent size Flush = Unit {0}
IsWholeEvent size (Done ticket ok) = Unit {0}

-- each write of the log is
abbrev pub IsWholeLog : ℕ → List Event → Type 0
IsWholeLog size log = (place : ℕ) (event : Event) → slice_get log place ≡ Some event → IsWholeEvent size event
