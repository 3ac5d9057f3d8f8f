-- What is behind the records is cleared: first the unit behind the last one, then the others.
use Rattle.std.specs.Prelude.{◌≡◌, ◌≢◌, ◌⊎◌, ℕ, ◌+◌, ◌-◌, ◌*◌, ◌<◌, ◌≤◌, List, [], ◌∷◌, ◌++◌, length, drop, Contains, Bool, true, false}
use Rattle.std.specs.List.{AllByRecursion}
use Rattle.byte_maps.specs.Units.{unit_at, zeros}
use Rattle.block_device.specs.Prelude.{History, last_at, EachWriteIsAnswered}
use Rattle.block_device.specs.declared.event.Event.{Event}
use Rattle.block_device.specs.declared.event.Event.TheVariants.{Write, Flush, Done}
use Rattle.log_replay.specs.Calls.{GoesOnBy}
use Rattle.log_replay.specs.Cleared.{IsAllClean}
use Rattle.log_replay.specs.Zeroing.{IsZero, UnitRun, AreRuns, run_events, IsZeroing}
use Rattle.log_replay.specs.Stale.{AreNotZero}

-- ---- the events; the log had `place` events before, and these bytes are those of the units

-- zeros over one unit and a flush, each with its good end
abbrev pub unit_events : ℕ → ℕ → List Event
unit_events place unit = Write unit (zeros 4096) ∷ Done place true ∷ Flush ∷ Done (place + 2) true ∷ []

-- the first part: over the first unit, where it isn't zero
abbrev pub IsFirstPart : ℕ → ℕ → List ℕ → List Event → Type 0
IsFirstPart place unit bytes events =
    ((unit_at 0 bytes ≡ zeros 4096) × (events ≡ [])) ⊎ ((unit_at 0 bytes ≢ zeros 4096) × (events ≡ unit_events place unit))

-- zeros over runs and one flush, each with its good end; nothing where there is no run
abbrev pub flushed_runs : ℕ → List UnitRun → List Event
flushed_runs place [] = []
flushed_runs place (run ∷ more) = run_events place (run ∷ more) ++ Flush ∷ Done (place + 2 * length (run ∷ more)) true ∷ []

-- the second part: over the runs of these units
pub record IsSecondPart (place : ℕ) (units : List ℕ) (events : List Event) : Type 0 where
  pub runs : List UnitRun
  pub are : AreRuns units runs
  pub spelled : events ≡ flushed_runs place runs

-- both parts, the second over those of the other units that aren't zero
pub record AreBothParts (place first end : ℕ) (bytes : List ℕ) (events : List Event) : Type 0 where
  pub first_part : List Event
  pub second_part : List Event
  pub units : List ℕ
  pub parts : events ≡ first_part ++ second_part
  pub is_first : IsFirstPart place first bytes first_part
  pub not_zero : AreNotZero (first + 1) (end - (first + 1)) (drop 4096 bytes) units
  pub is_second : IsSecondPart (place + length first_part) units second_part

-- The events that clear the units from one to before another. Where there is no unit there is no event.
abbrev pub AreClearing : ℕ → ℕ → ℕ → List ℕ → List Event → Type 0
AreClearing place first end bytes events = ((end ≤ first) × (events ≡ [])) ⊎ ((first < end) × AreBothParts place first end bytes events)

-- ---- the units that aren't zero

-- whether the first unit isn't
abbrev pub IsFirstStale : Bool → List ℕ → Type 0
IsFirstStale true bytes = unit_at 0 bytes ≢ zeros 4096
IsFirstStale false bytes = unit_at 0 bytes ≡ zeros 4096

-- whether the units begin with this one, and the others
abbrev pub AreParts : List ℕ → ℕ → Bool → List ℕ → Type 0
AreParts units unit true others = units ≡ unit ∷ others
AreParts units unit false others = (others ≡ units) × ((more : List ℕ) → units ≢ unit ∷ more)

-- ---- what they do

-- zeros are over these units, and all else is as before; what was clean and answered is so again
pub record WasWiped (units : ℕ → Type 0) (old new : History) : Type 0 where
  pub answered : (base : ℕ) → EachWriteIsAnswered base old [] → EachWriteIsAnswered base new []
  pub clean : IsAllClean old → IsAllClean new
  pub zero : (unit : ℕ) → units unit → IsZero new unit
  pub others : (unit : ℕ) → ¬ units unit → last_at new unit ≡ last_at old unit

-- zeros are over the unit, stable
pub record IsUnitCleared (unit : ℕ) (old new : History) : Type 0 where
  pub by : GoesOnBy (unit_events (length old.log) unit) old new
  pub wiped : WasWiped (λ k. k ≡ unit) old new

-- the first part was done, in so many events
pub record IsFirstCleared (unit : ℕ) (bytes : List ℕ) (count : ℕ) (old new : History) : Type 0 where
  pub events : List Event
  pub are : IsFirstPart (length old.log) unit bytes events
  pub counted : count ≡ length events
  pub by : GoesOnBy events old new
  pub wiped : WasWiped (λ k. (unit_at 0 bytes ≢ zeros 4096) × (k ≡ unit)) old new

-- the second part was done, in so many events
pub record AreOthersCleared (units : List ℕ) (count : ℕ) (old new : History) : Type 0 where
  pub events : List Event
  pub are : IsSecondPart (length old.log) units events
  pub counted : count ≡ length events
  pub by : GoesOnBy events old new
  pub wiped : WasWiped (Contains units) old new

-- both were done, in so many events; the units are zero now where they had these bytes before
pub record IsCleared (first end : ℕ) (bytes : List ℕ) (count : ℕ) (old new : History) : Type 0 where
  pub events : List Event
  pub are : AreClearing (length old.log) first end bytes events
  pub counted : count ≡ length events
  pub by : GoesOnBy events old new
  pub answered : (base : ℕ) → EachWriteIsAnswered base old [] → EachWriteIsAnswered base new []
  pub clean : IsAllClean old → IsAllClean new
  pub zero : ((k : ℕ) → k < end - first → last_at old (first + k) ≡ unit_at k bytes)
      → (unit : ℕ) → first ≤ unit → unit < end → IsZero new unit

-- ---- what was done so far, whether it ended well or not

-- zeros over the unit come first
pub record BeginsWithZeros (unit : ℕ) (events : List Event) : Type 0 where
  pub more : List Event
  pub parts : events ≡ Write unit (zeros 4096) ∷ more

-- The history has gone on by zeros over units from `first` to before `end`, where the first unit was zero already, or is first.
pub record ClearsSoFar (first end : ℕ) (bytes : List ℕ) (old new : History) : Type 0 where
  pub events : List Event
  pub by : GoesOnBy events old new
  pub each : AllByRecursion (IsZeroing first end) events
  pub begins : (events ≡ []) ⊎ (unit_at 0 bytes ≡ zeros 4096) ⊎ BeginsWithZeros first events
