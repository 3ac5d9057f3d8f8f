use Rattle.std.proofs.Common.{◌≡◌, ◌+◌}
use Rattle.extent_shards.proofs.Runs.{Grows}
use Rattle.extent_shards.proofs.writing.first_run.Given as goal

abbrev pub invariant-loop-page : goal.invariant-loop-page
invariant-loop-page l = record { counted : l.head.count ≡ l.page-index + 1; grows : Grows l.pages l.head }
