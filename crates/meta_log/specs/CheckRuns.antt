-- The pieces of a checkpoint: those of its record, last first, then zeros over what is stale behind it, in runs cut at 64 units.
use Rattle.std.specs.Prelude.{ℕ, zero, suc, ◌+◌, ◌-◌, ◌*◌, ◌≤◌, ◌<◌, Bool, false, not, nat_lt, ◌&&◌, ◌||◌, min, max, List, [], ◌∷◌, ◌++◌}
use Rattle.meta_log.specs.Pieces.{piece_count}
use Rattle.meta_log.specs.declared.runs.UnitRun.{UnitRun}

-- the unit is one of the run
abbrev pub in_run : UnitRun → ℕ → Bool
in_run r k = not (nat_lt k r.first) && nat_lt k (r.first + r.count)

-- it is one of some run
abbrev pub in_runs : List UnitRun → ℕ → Bool
in_runs [] k = false
in_runs (r ∷ rs) k = in_run r k || in_runs rs k

-- Runs from this unit on: they ascend, are apart, and end within so many units, and none is empty.
abbrev pub AreRunsFrom : ℕ → ℕ → List UnitRun → Type 0
AreRunsFrom from count [] = Unit {0}
AreRunsFrom from count (r ∷ rs) = (from ≤ r.first) × (0 < r.count) × (r.first + r.count ≤ count) × AreRunsFrom (r.first + r.count) count rs

-- the first so many units in one run; none make none
abbrev pub front_run : ℕ → List UnitRun
front_run zero = []
front_run (suc less) = record { first = 0; count = suc less } ∷ []

-- the first so many pieces of a record of so many units, the last of them first
abbrev pub record_runs : ℕ → ℕ → List UnitRun
record_runs units zero = []
record_runs units (suc n) = record { first = 64 * n; count = min 64 (units - 64 * n) } ∷ record_runs units n

-- so many units from one on, cut into runs of 64 (at most so many runs)
abbrev pub cut_run : ℕ → ℕ → ℕ → List UnitRun
cut_run zero first count = []
cut_run (suc most) first zero = []
cut_run (suc most) first (suc less) = record { first = first; count = min 64 (suc less) } ∷ cut_run most (first + 64) (suc less - 64)

-- what is stale from this unit on
abbrev pub zero_runs : ℕ → List UnitRun → List UnitRun
zero_runs units [] = []
zero_runs units (r ∷ rs) =
    let first : ℕ = max units r.first in
    let count : ℕ = r.first + r.count - first in
    cut_run count first count ++ zero_runs units rs

-- all pieces, for a record of so many units
abbrev pub check_runs : ℕ → List UnitRun → List UnitRun
check_runs units stale = record_runs units (piece_count units) ++ zero_runs units stale

-- a piece of zeros: it lies behind a record of so many units, within the half
pub record IsZeroRun (units half : ℕ) (r : UnitRun) : Type 0 where
  pub some : 0 < r.count
  pub most : r.count ≤ 64
  pub behind : units ≤ r.first
  pub within : r.first + r.count ≤ half
