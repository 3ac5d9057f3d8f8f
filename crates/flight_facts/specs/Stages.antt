-- Stages of submissions, each of which goes on once the one before it has ended.
use Rattle.std.specs.Prelude.{◌≡◌, ◌⊎◌, ℕ, ◌+◌, ◌-◌, ◌*◌, ◌≤◌, List, [], ◌∷◌, length, if◌then◌else◌}
use Rattle.std.specs.List.{AllByRecursion}
use Rattle.store_steps.specs.declared.flight.FlushState.{FlushState}
use Rattle.store_steps.specs.declared.flight.FlushState.TheVariants as flush
use Rattle.store_steps.specs.declared.flight.Flying.{Flying}
use Rattle.store_steps.specs.declared.flight.Job.{Job}
use Rattle.store_steps.specs.Prelude.{is_not_sent}

-- One submission for this job, which is so far; or so many pieces in all, of which so many were given to the device, and so many of these are written.
pub data Stage : Type 0 where
  by_one : (j : Job) (state : FlushState) → Stage
  by_pieces : (j : Job) (pieces given written : ℕ) → Stage

abbrev pub job_of : Stage → Job
job_of (by_one j state) = j
job_of (by_pieces j pieces given written) = j

-- nothing of it was submitted
abbrev pub IsUnsent : Stage → Type 0
IsUnsent (by_one j flush.NotSent) = Unit {0}
IsUnsent (by_one j state) = ⊥
IsUnsent (by_pieces j pieces given written) = (given ≡ 0) × (written ≡ 0)

-- all of it has ended well
abbrev pub IsEnded : Stage → Type 0
IsEnded (by_one j flush.Flushed) = Unit {0}
IsEnded (by_one j state) = ⊥
IsEnded (by_pieces j pieces given written) = (given ≡ pieces) × (written ≡ pieces)

-- what is in flight is of it: its submission, or the pieces that were given and haven't ended
abbrev pub IsOnWay : Stage → List Flying → Type 0
IsOnWay (by_one j (flush.Sent ticket)) flying = flying ≡ record { ticket = ticket; job = j } ∷ []
IsOnWay (by_one j state) flying = flying ≡ []
IsOnWay (by_pieces j pieces given written) flying =
    (given ≤ pieces) × (written + length flying ≡ given) × AllByRecursion (λ f. f.job ≡ j) flying

-- The first stages have ended, what is in flight is of the one behind them, and of those behind that one nothing was submitted.
abbrev pub AreInTurn : List Stage → List Flying → Type 0
AreInTurn [] flying = flying ≡ []
AreInTurn (s ∷ more) flying = (IsOnWay s flying × AllByRecursion IsUnsent more) ⊎ (IsEnded s × AreInTurn more flying)

-- each submission that is to come is made, and ends
abbrev pub stage_work : Stage → ℕ
stage_work (by_one j state) = if is_not_sent state then 2 else 0
stage_work (by_pieces j pieces given written) = 2 * (pieces - given)

abbrev pub stages_work : List Stage → ℕ
stages_work [] = 0
stages_work (s ∷ more) = stage_work s + stages_work more
