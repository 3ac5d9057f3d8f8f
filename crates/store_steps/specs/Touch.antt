-- What a call adds to the device's log, by where it writes.
use Rattle.std.specs.Prelude.{◌≡◌, ℕ, ◌+◌, ◌*◌, ◌≤◌, true, List, length, Option, Some, None}
use Rattle.std.specs.List.{AllByRecursion}
use Rattle.block_device.specs.Prelude.{Disk, History, Submitted, Reaped}
use Rattle.block_device.specs.declared.event.Event.{Event}
use Rattle.block_device.specs.declared.event.Event.TheVariants.{Write, Flush, Done}
use Rattle.meta_log.specs.declared.slot.Super.{Super}
use Rattle.meta_log.specs.Prelude.{active_unit, other_unit, other_slot}
use Rattle.store_image.specs.Prelude.{IsDataUnit}
use Rattle.switch_facts.specs.Prelude.{with_any}
use Rattle.store_steps.specs.Contexts.{Unsent, unsent_units, run_bytes}

-- the end of a submission, a flush, a write of fresh units, a write in the active half of the log, one in the other half, and one of the other slot,
-- each by its ticket
pub data Touch : Type 0 where
  nothing : Touch
  ends : (ticket : ℕ) → Touch
  flushes : (ticket : ℕ) → Touch
  on_data : (ticket : ℕ) (run : Unsent) → Touch
  on_half : (ticket unit : ℕ) (bytes : List ℕ) → Touch
  on_other : (ticket unit : ℕ) (bytes : List ℕ) → Touch
  on_slot : (ticket unit : ℕ) (bytes : List ℕ) → Touch

-- the write of a context's next run
abbrev pub run_write : Unsent → Event
run_write run = Write run.first.unit (run_bytes (unsent_units run))

-- what the device does
abbrev pub Adds : Touch → Disk → Disk → Type 0
Adds nothing d d' = (d'.history ≡ d.history) × (d'.flights ≡ d.flights)
Adds (ends ticket) d d' = Reaped d ticket true d'
Adds (flushes ticket) d d' = Submitted d ticket Flush d'
Adds (on_data ticket run) d d' = Submitted d ticket (run_write run) d'
Adds (on_half ticket unit bytes) d d' = Submitted d ticket (Write unit bytes) d'
Adds (on_other ticket unit bytes) d d' = Submitted d ticket (Write unit bytes) d'
Adds (on_slot ticket unit bytes) d d' = Submitted d ticket (Write unit bytes) d'

-- the event that it is, if it is one, and its ticket
abbrev pub event_of : Touch → Option Event
event_of nothing = None
event_of (ends ticket) = Some (Done ticket true)
event_of (flushes ticket) = Some Flush
event_of (on_data ticket run) = Some (run_write run)
event_of (on_half ticket unit bytes) = Some (Write unit bytes)
event_of (on_other ticket unit bytes) = Some (Write unit bytes)
event_of (on_slot ticket unit bytes) = Some (Write unit bytes)

abbrev pub ticket_of : Touch → ℕ
ticket_of nothing = 0
ticket_of (ends ticket) = ticket
ticket_of (flushes ticket) = ticket
ticket_of (on_data ticket run) = ticket
ticket_of (on_half ticket unit bytes) = ticket
ticket_of (on_other ticket unit bytes) = ticket
ticket_of (on_slot ticket unit bytes) = ticket

-- how many events that is, and the history behind it
abbrev pub events_of : Touch → ℕ
events_of nothing = 0
events_of t = 1

abbrev pub after : Touch → History → History
after t h = with_any (event_of t) h

-- where it writes: data units of the device, the active half, the other half, or the other slot
abbrev pub IsPlaced : Super → Touch → Type 0
IsPlaced s (on_data ticket run) = AllByRecursion (λ f. IsDataUnit s f.unit) (unsent_units run)
    × (4096 * run.first.unit + length (run_bytes (unsent_units run)) ≤ 4096 * s.units)
IsPlaced s (on_half ticket unit bytes) = (active_unit s ≤ unit) × (4096 * unit + length bytes ≤ 4096 * (active_unit s + s.half))
IsPlaced s (on_other ticket unit bytes) = (other_unit s ≤ unit) × (4096 * unit + length bytes ≤ 4096 * (other_unit s + s.half))
IsPlaced s (on_slot ticket unit bytes) = (unit ≡ other_slot s) × (length bytes ≡ 4096)
IsPlaced s t = Unit {0}

-- it writes none of the data units, nothing in the half, or neither in the other half nor a slot
abbrev pub IsNoData : Touch → Type 0
IsNoData (on_data ticket run) = ⊥
IsNoData t = Unit {0}

abbrev pub IsNoPiece : Touch → Type 0
IsNoPiece (on_half ticket unit bytes) = ⊥
IsNoPiece t = Unit {0}

abbrev pub IsNoOther : Touch → Type 0
IsNoOther (on_other ticket unit bytes) = ⊥
IsNoOther (on_slot ticket unit bytes) = ⊥
IsNoOther t = Unit {0}
