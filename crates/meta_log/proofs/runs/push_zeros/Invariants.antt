use Rattle.std.proofs.Common.{◌≡◌, ◌++◌, drop}
use Rattle.meta_log.specs.Prelude.{zero_runs}
use Rattle.meta_log.proofs.runs.push_zeros.Given as goal

abbrev pub invariant-loop-run : goal.invariant-loop-run
invariant-loop-run l = l.runs.items ++ zero_runs l.units (drop l.run-index l.stale) ≡ l.fn.runs.items ++ zero_runs l.units l.stale
