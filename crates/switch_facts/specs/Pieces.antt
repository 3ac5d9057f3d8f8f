-- Where the pieces of a checkpoint lie.
use Rattle.std.specs.Prelude.{◌≡◌, ℕ, ◌+◌, ◌<◌, ◌≤◌, false, true, List, [], ◌∷◌}
use Rattle.meta_log.specs.declared.runs.UnitRun.{UnitRun}
use Rattle.meta_log.specs.Prelude.{in_run, in_runs}

-- the run lies in a half of so many units
abbrev pub LiesInHalf : ℕ → UnitRun → Type 0
LiesInHalf half r = r.first + r.count ≤ half

-- the run can be written at once: it isn't empty, has at most 64 units, and lies in the half
pub record IsPieceOf (half : ℕ) (r : UnitRun) : Type 0 where
  pub some : 0 < r.count
  pub few : r.count ≤ 64
  pub within : LiesInHalf half r

-- no unit is in two of the runs
abbrev pub AreApart : List UnitRun → Type 0
AreApart [] = Unit {0}
AreApart (r ∷ rs) = ((k : ℕ) → in_run r k ≡ true → in_runs rs k ≡ false) × AreApart rs
