-- What the calls of a device do to it.
use Rattle.std.specs.Prelude.{◌≡◌, ◌≢◌, ◌⊎◌, ℕ, ◌+◌, ◌-◌, ◌*◌, ◌^◌, ◌<◌, ◌≤◌, ◌==◌, ◌++◌, not, min, List, [], ◌∷◌, length, take, Option, Some, None, IsSome, IfSome, find, filter, Bool, All}
use Rattle.byte_maps.specs.Units.{unit_at, IsUnits}
use Rattle.block_device.specs.Log.{last, IsClean, HasNoBadDone, IsAnsweredOnce}
use Rattle.block_device.specs.declared.event.Event.{Event}
use Rattle.block_device.specs.declared.event.Event.TheVariants.{Write, Flush, Done}

-- the contents at the start, and the events since
pub record History : Type 0 where
  pub start : List ℕ
  pub log : List Event

-- a ticket in flight, with its units (none for a flush)
pub record Flight : Type 0 where
  pub ticket : ℕ
  pub first : ℕ
  pub bytes : ℕ

-- what is known of a device: `history` is None where it doesn't tell
pub record Disk : Type 0 where
  pub units : ℕ
  pub depth : ℕ
  pub flights : List Flight
  pub waits : ℕ
  pub history : Option History

-- a device as it is handed out: nothing is in flight, and where it tells its log is empty
pub record IsFresh (d : Disk) : Type 0 where
  pub idle : d.flights ≡ []
  pub waits : d.waits ≡ 0
  pub log : IfSome d.history (λ h. h.log ≡ [])

-- the history with one more event
abbrev pub history_after : Option History → Event → Option History
history_after None event = None
history_after (Some h) event = Some (record { start = h.start; log = h.log ++ event ∷ [] })

-- the flight of a submission
abbrev pub flight_of : ℕ → Event → Flight
flight_of ticket (Write at bytes) = record { ticket = ticket; first = at; bytes = length bytes }
flight_of ticket Flush = record { ticket = ticket; first = 0; bytes = 0 }
flight_of ticket (Done t ok) = record { ticket = ticket; first = 0; bytes = 0 }

-- the flight of a ticket
abbrev pub find_flight : ℕ → List Flight → Option Flight
find_flight ticket flights = find (λ f. f.ticket == ticket) flights

-- the flights but for a ticket
abbrev pub without : ℕ → List Flight → List Flight
without ticket flights = filter (λ f. not (f.ticket == ticket)) flights

-- the flight is apart from these bytes at unit `at`
abbrev pub IsApart : ℕ → ℕ → Flight → Type 0
IsApart at bytes f = (f.bytes ≡ 0) ⊎ (4096 * f.first + f.bytes ≤ 4096 * at) ⊎ (4096 * at + bytes ≤ 4096 * f.first)

-- no write in flight touches these bytes at unit `at`
abbrev pub IsNotInFlight : Disk → ℕ → ℕ → Type 0
IsNotInFlight d at bytes = All (IsApart at bytes) d.flights

-- what holds of each device
pub record IsSound (d : Disk) : Type 0 where
  pub units : d.units ≤ 1048576
  pub depth : 8 ≤ d.depth
  pub room : length d.flights ≤ d.depth
  pub waits : d.waits ≤ 64
  pub size : IfSome d.history (λ h. IsUnits d.units h.start)
  pub size_now : IfSome d.history (λ h. IsUnits d.units (last h.start h.log))
  pub once : IfSome d.history (λ h. IsAnsweredOnce h.log)

-- a submission: its ticket is new, and is the event's place in the log
pub record Submitted (old : Disk) (ticket : ℕ) (event : Event) (new : Disk) : Type 0 where
  pub is_new : find_flight ticket old.flights ≡ None
  pub place : IfSome old.history (λ h. ticket ≡ length h.log)
  pub after : new ≡ record old { flights = old.flights ++ flight_of ticket event ∷ []; history = history_after old.history event }

-- a ticket in flight is done
pub record Reaped (old : Disk) (ticket : ℕ) (ok : Bool) (new : Disk) : Type 0 where
  pub was_open : IsSome (find_flight ticket old.flights)
  pub fewer : length new.flights + 1 ≡ length old.flights
  pub after : new ≡ record old { flights = without ticket old.flights; waits = 0; history = history_after old.history (Done ticket ok) }

-- no answer: nothing is in flight, or this is at most the 64th time in a row
abbrev pub Waited : Disk → Disk → Type 0
Waited old new = ((old.flights ≡ []) × (new ≡ old)) ⊎ ((old.flights ≢ []) × (old.waits < 64) × (new ≡ record old { waits = old.waits + 1 }))

-- bytes read at unit `at`: those last written, where no write of the unit ended badly
pub record HasRead (d : Disk) (at count : ℕ) (bytes : List ℕ) : Type 0 where
  pub size : IsUnits count bytes
  pub units : IfSome d.history (λ h. (k : ℕ) → k < count → HasNoBadDone h.log (at + k) → unit_at k bytes ≡ unit_at (at + k) (last h.start h.log))

-- nothing is in flight and no unit is dirty
pub record IsQuiet (d : Disk) : Type 0 where
  pub idle : d.flights ≡ []
  pub clean : IfSome d.history (λ h. (k : ℕ) → IsClean h.log k)

-- the count of faults has risen, or stands at the last number of 64 bits
abbrev pub Rose : ℕ → ℕ → Type 0
Rose before now = min (before + 1) (2 ^ 64 - 1) ≤ now

-- A later history of the same device, with counts of events that a layer above kept.
abbrev pub Continues : Option History → ℕ → Option History → ℕ → Type 0
Continues None n None m = Unit {0}
Continues (Some h) n (Some h') m = (h'.start ≡ h.start) × (length h'.log + n ≡ length h.log + m) × (take (length h.log) h'.log ≡ h.log)
Continues _ n _ m = ⊥
