-- The half of the log that isn't in use, as a mount reads it: which of its units aren't zero.
use Rattle.std.specs.Prelude.{◌≡◌, ◌↔◌, ℕ, ◌+◌, ◌<◌, ◌≤◌, true, false, Bool, ◌||◌, List}
use Rattle.byte_maps.specs.Units.{unit_at, zeros}
use Rattle.block_device.specs.Prelude.{Disk}
use Rattle.meta_log.specs.declared.runs.UnitRun.{UnitRun}
use Rattle.meta_log.specs.Prelude.{in_run, in_runs, AreRunsFrom}
use Rattle.log_replay.specs.Opening.{IsAbout}
use Rattle.log_replay.specs.declared.other_half.GatheredRuns.{GatheredRuns}

-- of so many units from one on exactly those in no run are zero
abbrev pub AreZeroOutside : ℕ → ℕ → List UnitRun → List ℕ → Type 0
AreZeroOutside first count runs contents = (k : ℕ) → k < count → (in_runs runs k ≡ false) ↔ (unit_at (first + k) contents ≡ zeros 4096)

-- These are the runs of units that aren't zero, of so many units from one on, where nothing is dirty.
pub record AreRunsOn (d : Disk) (first count : ℕ) (runs : List UnitRun) : Type 0 where
  pub apart : AreRunsFrom 0 count runs
  pub about : IsAbout d (AreZeroOutside first count runs)

-- ---- the runs while they are gathered

-- the unit is in a run that has ended, or in the last one
abbrev pub gathers : GatheredRuns → ℕ → Bool
gathers g k = in_runs g.ended.items k || in_run g.last k

-- the runs are apart, and the last one ends at or before unit `end`
pub record AreGathered (end : ℕ) (g : GatheredRuns) : Type 0 where
  pub ended : AreRunsFrom 0 g.last.first g.ended.items
  pub last : g.last.first + g.last.count ≤ end

-- the last run has ended
pub record EndsLast (old new : GatheredRuns) : Type 0 where
  pub ended : AreRunsFrom 0 (old.last.first + old.last.count) new.ended.items
  pub same : (k : ℕ) → in_runs new.ended.items k ≡ gathers old k

-- unit k was added to the runs, which end before it
pub record AddsUnit (k : ℕ) (old new : GatheredRuns) : Type 0 where
  pub gathered : AreGathered (k + 1) new
  pub there : gathers new k ≡ true
  pub others : (j : ℕ) → j < k → gathers new j ≡ gathers old j

-- Of so many units, the first of which is unit `at`, those were added that aren't zero by these bytes.
pub record AddsPiece (at count : ℕ) (bytes : List ℕ) (old new : GatheredRuns) : Type 0 where
  pub gathered : AreGathered (at + count) new
  pub each : (k : ℕ) → k < count → (gathers new (at + k) ≡ false) ↔ (unit_at k bytes ≡ zeros 4096)
  pub others : (j : ℕ) → j < at → gathers new j ≡ gathers old j

-- so were the units below one, the first of which is unit `first` of these contents
abbrev pub GathersBelow : ℕ → ℕ → GatheredRuns → List ℕ → Type 0
GathersBelow first at g contents = (k : ℕ) → k < at → (gathers g k ≡ false) ↔ (unit_at (first + k) contents ≡ zeros 4096)
