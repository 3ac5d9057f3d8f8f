-- What is known of a unit at a moment, in the words that a layer above keeps from one event to the next.
use Rattle.std.specs.Prelude.{◌≡◌, ◌⊎◌, ℕ, ◌+◌, ◌*◌, ◌≤◌, List, [], ◌∷◌, ◌++◌, length, take, Some, slice_get, Contains, All, true}
use Rattle.byte_maps.specs.Units.{unit_at}
use Rattle.block_device.specs.Log.{last, IsFlushAfter, IsStable, IsClean, WritesUnit}
use Rattle.block_device.specs.Disk.{History, Flight, flight_of, find_flight, IsApart}
use Rattle.block_device.specs.declared.event.Event.{Event}
use Rattle.block_device.specs.declared.event.Event.TheVariants.{Write, Flush, Done}

-- the history with one more event
abbrev pub with_event : History → Event → History
with_event h event = record { start = h.start; log = h.log ++ event ∷ [] }

-- the bytes last written to unit k
abbrev pub last_at : History → ℕ → List ℕ
last_at h k = unit_at k (last h.start h.log)

-- unit k isn't dirty, and P holds of it: so P holds of it in each image
pub record SurelyHolds (h : History) (k : ℕ) (P : List ℕ → Type 0) : Type 0 where
  pub clean : IsClean h.log k
  pub last : P (last_at h k)

-- unit k is dirty by this write alone, and P holds of it as last written
pub record IsPending (h : History) (k write : ℕ) (P : List ℕ → Type 0) : Type 0 where
  pub others : (place : ℕ) (event : Event) → slice_get h.log place ≡ Some event → WritesUnit k event → (place ≡ write) ⊎ IsStable h.log place
  pub last : P (last_at h k)

-- each write of unit k is stable, or has a good Done before this flush
abbrev pub IsCovered : List Event → ℕ → ℕ → Type 0
IsCovered log flush k =
    (write : ℕ) (event : Event) → slice_get log write ≡ Some event → WritesUnit k event → IsStable log write ⊎ IsFlushAfter log flush write

-- the event is a write or a flush
abbrev pub IsSubmission : Event → Type 0
IsSubmission (Write at bytes) = Unit {0}
IsSubmission Flush = Unit {0}
IsSubmission (Done ticket ok) = ⊥

-- each submission from place `base` on is in flight, or has a good Done
abbrev pub EachWriteIsAnswered : ℕ → History → List Flight → Type 0
EachWriteIsAnswered base h flights =
    (place : ℕ) (event : Event) → base ≤ place → slice_get h.log place ≡ Some event → IsSubmission event
    → (find_flight place flights ≡ Some (flight_of place event)) ⊎ Contains h.log (Done place true)

-- after the first `base` events no unit was dirty
abbrev pub QuietAt : ℕ → History → Type 0
QuietAt base h = (k : ℕ) → IsClean (take base h.log) k

-- no write in flight touches unit k
abbrev pub IsUntouched : List Flight → ℕ → Type 0
IsUntouched flights k = All (IsApart k 4096) flights

-- the event's bytes lie inside a device of this length
abbrev pub EventFits : ℕ → Event → Type 0
EventFits size (Write at bytes) = 4096 * at + length bytes ≤ size
EventFits size Flush = Unit {0}
EventFits size (Done ticket ok) = Unit {0}
