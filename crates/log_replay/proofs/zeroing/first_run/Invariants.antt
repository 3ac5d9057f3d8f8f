use Rattle.std.proofs.Common.{◌≡◌, ◌≤◌, ◌<◌, ◌+◌, ℕ, get_or}
use Rattle.log_replay.proofs.zeroing.first_run.Given as goal

-- the units so far are one behind the other
abbrev pub invariant-loop-k : goal.invariant-loop-k
invariant-loop-k l = (l.k ≤ 64) × ((j : ℕ) → j < l.k → get_or l.units j 0 ≡ get_or l.units 0 0 + j)
