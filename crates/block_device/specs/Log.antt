-- The log of a device, and what a crash after a part of it may leave.
use Rattle.std.specs.Prelude.{◌≡◌, ℕ, ◌≤◌, List, [], ◌∷◌, length, take, Contains, slice_get, Some, Bool, true, false}
use Rattle.byte_maps.specs.Units.{unit_at, overlaid, Covers}
use Rattle.block_device.specs.declared.event.Event.{Event}
use Rattle.block_device.specs.declared.event.Event.TheVariants.{Write, Flush, Done}

-- the contents after one event
abbrev pub after_event : List ℕ → Event → List ℕ
after_event bytes (Write at piece) = overlaid at piece bytes
after_event bytes Flush = bytes
after_event bytes (Done ticket ok) = bytes

-- the bytes last written: the start contents with the log's writes laid over them in order
abbrev pub last : List ℕ → List Event → List ℕ
last start [] = start
last start (event ∷ log) = last (after_event start event) log

-- the event is a write that covers unit k
abbrev pub WritesUnit : ℕ → Event → Type 0
WritesUnit k (Write at bytes) = Covers at bytes k
WritesUnit k Flush = ⊥
WritesUnit k (Done ticket ok) = ⊥

-- the event is no write
abbrev pub WritesNothing : Event → Type 0
WritesNothing (Write at bytes) = ⊥
WritesNothing Flush = Unit {0}
WritesNothing (Done ticket ok) = Unit {0}

-- the flush at this place was submitted after the write's good Done
pub record IsFlushAfter (log : List Event) (flush write : ℕ) : Type 0 where
  pub is_flush : slice_get log flush ≡ Some Flush
  pub written : Contains (take flush log) (Done write true)

-- some flush after the write has a good Done
pub record IsStable (log : List Event) (write : ℕ) : Type 0 where
  pub flush : ℕ
  pub after : IsFlushAfter log flush write
  pub done : Contains log (Done flush true)

-- each write that covers unit k is stable
abbrev pub IsClean : List Event → ℕ → Type 0
IsClean log k = (write : ℕ) (event : Event) → slice_get log write ≡ Some event → WritesUnit k event → IsStable log write

-- some write that covers unit k is not stable
abbrev pub IsDirty : List Event → ℕ → Type 0
IsDirty log k = (write : ℕ) × ((event : Event) × (slice_get log write ≡ Some event) × WritesUnit k event × (¬ IsStable log write))

-- what a crash may leave: the bytes last written, but anything in dirty units
pub record IsCrashImage (start : List ℕ) (log : List Event) (image : List ℕ) : Type 0 where
  pub size : length image ≡ length start
  pub clean : (k : ℕ) → IsClean log k → unit_at k image ≡ unit_at k (last start log)

-- no write that covers unit k has a bad Done
abbrev pub HasNoBadDone : List Event → ℕ → Type 0
HasNoBadDone log k = (write : ℕ) (event : Event) → slice_get log write ≡ Some event → WritesUnit k event → ¬ Contains log (Done write false)

-- each ticket has at most one Done
abbrev pub IsAnsweredOnce : List Event → Type 0
IsAnsweredOnce log =
    (i j ticket : ℕ) (ok ok' : Bool) → slice_get log i ≡ Some (Done ticket ok) → slice_get log j ≡ Some (Done ticket ok') → i ≡ j

-- P holds of each front of the log with at least `base` events
abbrev pub EachCut : ℕ → List Event → (List Event → Type 0) → Type 0
EachCut base log P = (n : ℕ) → base ≤ n → n ≤ length log → P (take n log)
