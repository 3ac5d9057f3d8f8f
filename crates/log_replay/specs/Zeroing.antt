-- Zeros over units that hold something else.
use Rattle.std.specs.Prelude.{◌≡◌, ◌≢◌, ◌⊎◌, ℕ, ◌+◌, ◌*◌, ◌<◌, ◌≤◌, List, [], ◌∷◌, length, drop, Contains, slice_get, slice_index, Some, true}
use Rattle.std.specs.List.{AllByRecursion}
use Rattle.byte_maps.specs.Units.{zeros}
use Rattle.block_device.specs.Prelude.{last, WritesUnit, History, last_at, EachWriteIsAnswered}
use Rattle.block_device.specs.declared.event.Event.{Event}
use Rattle.block_device.specs.declared.event.Event.TheVariants.{Write, Flush, Done}
use Rattle.log_replay.specs.Calls.{GoesOn, GoesOnBy}

-- each write has a good end: none is in flight, and none failed
abbrev pub EachWriteIsDone : List Event → Type 0
EachWriteIsDone log = (write unit : ℕ) (event : Event) → slice_get log write ≡ Some event → WritesUnit unit event → Contains log (Done write true)

abbrev pub IsZero : History → ℕ → Type 0
IsZero h unit = last_at h unit ≡ zeros 4096

-- of the first units, ascending and one behind the other, so many are a run: as many as go on without a gap, at most 64
pub record IsRunAtFront (units : List ℕ) (count : ℕ) : Type 0 where
  pub within : count ≤ length units
  pub most : count ≤ 64
  pub some : 0 < length units → 0 < count
  pub consecutive : (k : ℕ) → k < count → slice_index units k ≡ slice_index units 0 + k
  pub ends : count < length units → (count ≡ 64) ⊎ (slice_index units count ≢ slice_index units 0 + count)

-- a run of units: its first, and how many
pub record UnitRun : Type 0 where
  pub at : ℕ
  pub count : ℕ

-- these are the runs of the units, one after another
abbrev pub AreRuns : List ℕ → List UnitRun → Type 0
AreRuns units [] = units ≡ []
AreRuns units (run ∷ more) = (0 < length units) × IsRunAtFront units run.count × (run.at ≡ slice_index units 0) × AreRuns (drop run.count units) more

-- for each run a write of zeros and its good end; the log had `place` events before
abbrev pub run_events : ℕ → List UnitRun → List Event
run_events place [] = []
run_events place (run ∷ more) = Write run.at (zeros (4096 * run.count)) ∷ Done place true ∷ run_events (place + 2) more

-- zeros were written over the runs of these units, of which there are so many
pub record WroteRuns (units : List ℕ) (count : ℕ) (old new : History) : Type 0 where
  pub runs : List UnitRun
  pub are : AreRuns units runs
  pub counted : count ≡ length runs
  pub by : GoesOnBy (run_events (length old.log) runs) old new

-- the event writes zeros over whole units, from one on to before another, or it writes nothing
abbrev pub IsZeroing : ℕ → ℕ → Event → Type 0
IsZeroing first end (Write at bytes) = (count : ℕ) × (bytes ≡ zeros (4096 * count)) × (first ≤ at) × (at + count ≤ end)
IsZeroing first end Flush = Unit {0}
IsZeroing first end (Done ticket ok) = Unit {0}

-- the history has gone on by such events alone
pub record ZeroesOnly (first end : ℕ) (old new : History) : Type 0 where
  pub events : List Event
  pub by : GoesOnBy events old new
  pub each : AllByRecursion (IsZeroing first end) events

-- zeros were written over these units, and over no other
pub record WasZeroed (units : List ℕ) (old new : History) : Type 0 where
  pub goes_on : GoesOn old new
  pub size : length (last new.start new.log) ≡ length (last old.start old.log)
  pub done : EachWriteIsDone old.log → EachWriteIsDone new.log
  pub answered : (base : ℕ) → EachWriteIsAnswered base old [] → EachWriteIsAnswered base new []
  pub zero : (unit : ℕ) → Contains units unit → IsZero new unit
  pub others : (unit : ℕ) → ¬ Contains units unit → last_at new unit ≡ last_at old unit
